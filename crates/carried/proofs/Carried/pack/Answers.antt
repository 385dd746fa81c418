use Rattle.std.proofs.Common.{arith}
use Rattle.carried.specs.Places.{all-packed}
use Rattle.carried.proofs.Carried.pack.Goals as goal

pub returns : goal.returns
returns g c = all-packed g.Self.Carried.carries c.args.codes.now c.loop-k.bytes _ (omega arith) (λ k h. c.loop-k.invariant k (omega arith))
