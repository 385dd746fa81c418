use Rattle.std.proofs.Common.{◌+◌, None, sym, subst, lit<}
use Rattle.elimination.proofs.Absorbing.{left-reduced}
use Rattle.elimination.specs.Reduced.{Reduced}
use Rattle.elimination.specs.Tables.{with_row}
use Rattle.elimination.proofs.table.Table.take_solved.Goals as goal

pub returns-clause-reduced : goal.returns-clause-reduced
returns-clause-reduced c =
    λ m _ red. subst (λ i. Reduced m 32 (c.args.k + 1) (with_row i None c.args.self.now)) (sym c.place-at.ensures) (left-reduced m 32 c.args.k c.args.self.now (lit< tt) red)
