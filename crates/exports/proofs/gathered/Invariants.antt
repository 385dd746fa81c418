use Rattle.std.proofs.Common.{◌≡◌}
use Rattle.elimination.specs.Loops.{turns}
use Rattle.elimination.specs.Tables.{no_rows}
use Rattle.exports.specs.Decoding.{gather_one}
use Rattle.exports.proofs.gathered.Given as goal

abbrev pub invariant-loop-row : goal.invariant-loop-row
invariant-loop-row g l = l.table ≡ turns (gather_one g.F.Field.means 32 l.rows) (no_rows 32) l.row-index
