use Rattle.field.specs.OfBytes.{product}
use Rattle.field.proofs.Tables.{chain-at}
use Rattle.field.proofs.bytes.powers.power.Goals as goal

pub returns : goal.returns
unfolding product
returns c = chain-at 255 c.args.k c.requires
