use Rattle.std.proofs.Common.{arith}
use Rattle.file.proofs.Spellings.{below, above}
use Rattle.file.proofs.spelling.Spelling.of.Goals as goal

pub returns-then-Q-lt256 : goal.returns-then-Q-lt256
returns-then-Q-lt256 g c = below _ (omega (arith, g.met.F.Field.order))

pub returns-else-Q-lt256 : goal.returns-else-Q-lt256
returns-else-Q-lt256 g c = above _ (omega (arith, g.met.F.Field.order))
