use Rattle.std.proofs.Common.{rules}
use Rattle.std.proofs.lemmas.Slice.{overwrites}
use Rattle.link.specs.Ring.{padded}
use Rattle.link.proofs.stored.padded.Goals as goal

pub returns : goal.returns
unfolding padded
returns c = search (rules, overwrites)
