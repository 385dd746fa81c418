use Rattle.std.proofs.Common.{List, Some, Option, ap}
use Rattle.elimination.proofs.Turns.{turns-none, turns_more, by_case}
use Rattle.elimination.specs.Tables.{with_row, cleared_by, clear_at}
use Rattle.elimination.specs.declared.row.Row.{Row}
use Rattle.elimination.specs.declared.table.Table.{Table}
use Rattle.elimination.proofs.table.Table.insert.Goals as goal
use Rattle.elimination.proofs.table.Table.insert.Goals.{in-Some, in_default}

pub loop-slot-init : goal.loop-slot-init
loop-slot-init g c = turns-none _ _

pub loop-slot-preserved : goal.loop-slot-preserved
loop-slot-preserved g c =
    let n = c.loop-slot.slot-index in
    let of : List (Option Row) → Table = λ rows. record { rows = rows } in
    let before : Table = record { rows = c.loop-slot.slot-items } in
    let put = λ (o : Option Row). with_row n (cleared_by g.F.Field.means c.args.at c.args.pivot.now o) before in
    turns_more (clear_at g.F.Field.means c.args.at c.args.pivot.now) _ _ before _ c.loop-slot.invariant
    (elim c.match-slot.branch [
      | in-Some w ↦ by_case put _ _ _ _ (ap of w.slot-items-is) (ap (λ y. with_row n (Some y) before) w.subtract.ensures) w.in-Some.is
      | in_default w ↦ by_case put _ _ _ _ (ap of w.slot-items-is) (ap (λ o. with_row n o before) w.in_default.is) w.in_default.is
    ])
