use Rattle.algebra.proofs.Determined.{release_is_determined_lem}
use Rattle.algebra.proofs.release_is_determined.Goals as goal

pub returns : goal.returns
returns c = release_is_determined_lem
