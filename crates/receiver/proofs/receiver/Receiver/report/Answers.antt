use Rattle.std.proofs.Common.{refl, subst, lit<, rules}
use Rattle.receiver.specs.Promise.{RightReport}
use Rattle.receiver.proofs.Reporting.{reported-right}
use Rattle.receiver.proofs.receiver.Receiver.report.Goals as goal

pub returns-clause-stands : goal.returns-clause-stands
returns-clause-stands g c =
    let m = g.C.Field.means in let carries = g.C.Carried.carries in
    λ log run. subst (RightReport m carries 32 log) (search rules)
    (reported-right m g.met.C.Field.laws carries 32 (lit< tt) g.met.C.Carried.lays refl log c.args.self.now.state run)
