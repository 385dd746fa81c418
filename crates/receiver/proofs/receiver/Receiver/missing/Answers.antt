use Rattle.std.proofs.Common.{refl, lit<}
use Rattle.receiver.proofs.Reporting.{listed-right}
use Rattle.receiver.proofs.receiver.Receiver.missing.Goals as goal

pub returns-clause-stands : goal.returns-clause-stands
returns-clause-stands g c =
    λ log run. listed-right g.C.Field.means g.met.C.Field.laws g.C.Carried.carries 32 (lit< tt) g.met.C.Carried.lays refl
    log c.args.self.now.state run c.args.numbers.now c.missing.new.numbers c.missing.result c.missing.ensures
