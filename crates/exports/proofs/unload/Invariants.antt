use Rattle.std.proofs.Common.{◌≡◌}
use Rattle.elimination.specs.Loops.{turns}
use Rattle.exports.specs.Decoding.{unloading, unload_one}
use Rattle.exports.proofs.unload.Given as goal

abbrev pub invariant-loop-k : goal.invariant-loop-k
invariant-loop-k l = unloading l.table l.packets.packets ≡ turns (unload_one 32) (unloading l.initial.table l.initial.packets.packets) l.k
