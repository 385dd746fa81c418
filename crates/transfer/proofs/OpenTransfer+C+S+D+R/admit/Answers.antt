use Rattle.std.proofs.Common.{refl, lit<, rules}
use Rattle.transfer.specs.Calls.{state_of, admit}
use Rattle.transfer.proofs.Following.{together, call-stands}
use Rattle.transfer.proofs.OpenTransfer+C+S+D+R.admit.Goals as goal

pub returns-clause-exact : goal.returns-clause-exact
returns-clause-exact g c = search rules

pub returns-clause-goes_on : goal.returns-clause-goes_on
returns-clause-goes_on g c = λ source forward reverse log run. (state_of c.args.self.now, run, returns-clause-exact g c)

pub returns-clause-stands : goal.returns-clause-stands
returns-clause-stands g c =
    call-stands (lit< tt) refl (together g.met.C.Field.laws g.met.C.Carried.lays g.met.S.Source.laws g.met.D.Link.laws g.met.R.Link.laws)
    (state_of c.args.self.now) _ (admit c.args.packet.now c.admit.result) (returns-clause-exact g c)
