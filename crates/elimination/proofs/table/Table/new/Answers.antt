use Rattle.elimination.proofs.Absorbing.{no_rows-reduced}
use Rattle.elimination.proofs.table.Table.new.Goals as goal

pub returns-clause-reduced : goal.returns-clause-reduced
returns-clause-reduced c = λ m start. no_rows-reduced m 32 start
