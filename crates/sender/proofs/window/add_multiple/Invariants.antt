use Rattle.std.proofs.Common.{◌≡◌, ℕ, ◌<◌, ◌≤◌, length, get_or}
use Rattle.field.specs.Field.{plus, times}
use Rattle.sender.proofs.window.add_multiple.Given as goal

-- the places before p are done, and those from p on are left
abbrev pub invariant-loop-p : goal.invariant-loop-p
invariant-loop-p g l = record {
  long : length l.total ≡ 128;
  done : (k : ℕ) → k < l.p → get_or l.total k 0 ≡ plus g.F.Field.means (get_or l.initial.total k 0) (times g.F.Field.means l.factor (get_or l.packet k 0));
  left : (k : ℕ) → l.p ≤ k → get_or l.total k 0 ≡ get_or l.initial.total k 0;
}
