use Rattle.field.specs.OfBytes.{product}
use Rattle.field.proofs.Tables.{logarithms, logs_at}
use Rattle.field.proofs.bytes.logarithms.logarithm.Goals as goal

pub returns : goal.returns
unfolding product
returns c =
    let it = logs_at logarithms tt c.args.a c.requires.0 c.requires.1 in
    record { below = it.0; undoes = it.1 }
