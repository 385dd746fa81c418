use Rattle.std.proofs.Common.{◌≡◌}
use Rattle.elimination.specs.Loops.{turns}
use Rattle.elimination.specs.Tables.{clear_at}
use Rattle.elimination.specs.declared.table.Table.{Table}
use Rattle.elimination.proofs.table.Table.insert.Given as goal

abbrev pub invariant-loop-slot : goal.invariant-loop-slot
invariant-loop-slot g l =
    ◌≡◌ {A = Table} (record { rows = l.slot-items }) (turns (clear_at g.F.Field.means l.at l.pivot) l.fn.self l.slot-index)
