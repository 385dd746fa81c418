use Rattle.std.proofs.Common.{Option, refl}
use Rattle.elimination.proofs.Turns.{turns-none, turns_more, by_case}
use Rattle.elimination.specs.Tables.{row_at, reduced_by}
use Rattle.elimination.specs.declared.row.Row.{Row}
use Rattle.elimination.proofs.table.Table.reduce.Goals as goal
use Rattle.elimination.proofs.table.Table.reduce.Goals.{in-Some, in_default}

pub loop-at-init : goal.loop-at-init
loop-at-init g c = turns-none _ _

pub loop-at-preserved : goal.loop-at-preserved
loop-at-preserved g c =
    let by = λ (o : Option Row). reduced_by g.F.Field.means c.loop-at.at o c.loop-at.row in
    turns_more (λ i. reduced_by g.F.Field.means i (row_at c.args.self.now i)) _ _ c.loop-at.row _ c.loop-at.invariant
    (elim c.match-slot.branch [
      | in-Some w ↦ by_case by _ _ _ _ w.row-is w.subtract.ensures w.in-Some.is
      | in_default w ↦ by_case by _ _ _ _ w.row-is refl w.in_default.is
    ])
