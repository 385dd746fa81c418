use Rattle.std.proofs.Common.{◌≡◌}
use Rattle.elimination.specs.Loops.{turns}
use Rattle.elimination.specs.Tables.{row_at, reduced_by}
use Rattle.elimination.proofs.table.Table.reduce.Given as goal

abbrev pub invariant-loop-at : goal.invariant-loop-at
invariant-loop-at g l = l.row ≡ turns (λ i. reduced_by g.F.Field.means i (row_at l.self i)) l.initial.row l.at
