use Rattle.std.proofs.Common.{◌≡◌, ℕ, ◌<◌, get_or}
use Rattle.file.specs.Spelling.{base, digit, digits}
use Rattle.file.proofs.spelling.Spelling.spell.Given as goal

abbrev pub invariant-loop-place : goal.invariant-loop-place
invariant-loop-place l = (k : ℕ) → k < l.place → get_or l.symbols k 0 ≡ digit (base l.self) (digits l.self) l.byte k
