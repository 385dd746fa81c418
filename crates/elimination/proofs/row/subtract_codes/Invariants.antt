use Rattle.std.proofs.Common.{◌≡◌, ℕ, ◌<◌, ◌≤◌, get_or}
use Rattle.elimination.specs.Rows.{less}
use Rattle.elimination.proofs.row.subtract_codes.Given as goal

abbrev pub invariant-loop-i : goal.invariant-loop-i
invariant-loop-i g l =
    ((k : ℕ) → k < l.i → get_or l.target k 0 ≡ less g.F.Field.means l.factor l.other l.initial.target k)
    × ((k : ℕ) → l.i ≤ k → get_or l.target k 0 ≡ get_or l.initial.target k 0)
