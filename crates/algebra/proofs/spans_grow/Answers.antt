use Rattle.algebra.proofs.Growing.{spans_grow_lem}
use Rattle.algebra.proofs.spans_grow.Goals as goal

pub returns : goal.returns
returns c = spans_grow_lem
