use Rattle.std.proofs.Common.{arith}
use Rattle.carried.specs.Places.{all-unpacked}
use Rattle.carried.proofs.Carried.unpack.Goals as goal

pub returns : goal.returns
returns g c = all-unpacked g.Self.Carried.carries c.args.bytes.now c.loop-i.codes _ (omega arith) (λ i h. c.loop-i.invariant i (omega arith))
