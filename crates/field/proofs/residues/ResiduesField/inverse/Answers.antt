use Rattle.std.proofs.Common.{arith}
use Rattle.field.proofs.Fermat.{inverse-is}
use Rattle.field.proofs.residues.ResiduesField.inverse.Goals as goal

pub returns : goal.returns
returns c = inverse-is c.args.a _ _ (omega arith) (omega arith) c.loop-turn.invariant.0
