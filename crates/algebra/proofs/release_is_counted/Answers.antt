use Rattle.algebra.proofs.Existence.{release_is_counted}
use Rattle.algebra.proofs.release_is_counted.Goals as goal

pub returns : goal.returns
returns c = release_is_counted
