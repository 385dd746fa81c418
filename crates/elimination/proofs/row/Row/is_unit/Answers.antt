use Rattle.std.proofs.Common.{sym}
use Rattle.std.proofs.lemmas.Bool.{eq-eqb, ne_eqb, or_from, or_left, or_right}
use Rattle.elimination.proofs.Turns.{every-none, every_more, every_not}
use Rattle.elimination.specs.Rows.{zero_beside}
use Rattle.elimination.proofs.row.Row.is_unit.Goals as goal
use Rattle.elimination.proofs.row.Row.is_unit.Goals.{else-i-at-via-then-i-at+else-slot-ne0, else-i-at-via-else-i-at}

pub returns-then-slot-ne0 : goal.returns-then-slot-ne0
returns-then-slot-ne0 c =
    sym (every_not (zero_beside c.args.at c.args.self.now) c.loop-i.i 32 c.loop-i-test.true
    (or_from _ _ (ne_eqb _ _ c.if-i-at.true) (ne_eqb _ _ c.if-slot-ne0.true)))

pub loop-i-init : goal.loop-i-init
loop-i-init c = every-none _

pub loop-i-preserved : goal.loop-i-preserved
loop-i-preserved c =
    every_more (zero_beside c.args.at c.args.self.now) c.loop-i.i c.loop-i.invariant
    (elim c.else-i-at.branch [
      | else-i-at-via-then-i-at+else-slot-ne0 w ↦ or_right _ _ (eq-eqb _ _ w.if-slot-ne0.false)
      | else-i-at-via-else-i-at w ↦ or_left _ _ (eq-eqb _ _ w.if-i-at.false)
    ])
