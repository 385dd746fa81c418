use Rattle.std.proofs.Common.{◌≡◌, true}
use Rattle.elimination.specs.Loops.{every}
use Rattle.elimination.specs.Rows.{zero_beside}
use Rattle.elimination.proofs.row.Row.is_unit.Given as goal

abbrev pub invariant-loop-i : goal.invariant-loop-i
invariant-loop-i l = every (zero_beside l.at l.self) l.i ≡ true
