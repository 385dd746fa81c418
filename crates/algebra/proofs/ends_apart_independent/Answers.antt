use Rattle.algebra.proofs.Independence.{ends_apart_independent}
use Rattle.algebra.proofs.ends_apart_independent.Goals as goal

pub returns : goal.returns
returns c = ends_apart_independent
