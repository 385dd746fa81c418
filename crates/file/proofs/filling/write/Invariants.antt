use Rattle.std.proofs.Common.{◌≡◌, ℕ, ◌+◌, ◌<◌, get_or}
use Rattle.file.specs.Spelling.{byte_of, spelling_of}
use Rattle.file.proofs.filling.write.Given as goal

abbrev pub invariant-loop-i : goal.invariant-loop-i
invariant-loop-i g l = (k : ℕ) → k < l.i → get_or l.byte-items k 0 ≡ byte_of (spelling_of g.F.Field.means.q) l.packet.symbols.now (l.skipped + k)
