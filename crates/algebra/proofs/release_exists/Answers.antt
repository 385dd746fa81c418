use Rattle.algebra.proofs.Existence.{release_exists_lem}
use Rattle.algebra.proofs.release_exists.Goals as goal

pub returns : goal.returns
returns c = release_exists_lem
