use Rattle.std.proofs.Common.{Ok, refl, lit<, take_at, arith, rules}
use Rattle.std.proofs.lemmas.Grind.{common_steps}
use Rattle.transfer.specs.Calls.{state_of, send}
use Rattle.frame.proofs.Frames.{frame-length}
use Rattle.sender.specs.Steps.{combined, width}
use Rattle.transfer.proofs.Following.{together, call-stands}
use Rattle.transfer.proofs.Transfer.send.Goals as goal

pub returns-in_err-length-clause-exact : goal.returns-in_err-length-clause-exact
returns-in_err-length-clause-exact g c = search rules

pub returns-in_err-length-clause-goes_on : goal.returns-in_err-length-clause-goes_on
returns-in_err-length-clause-goes_on g c = λ source forward reverse log run. (state_of c.args.self.now, run, (refl, returns-in_err-length-clause-exact g c))

pub returns-in_err-length-clause-stands : goal.returns-in_err-length-clause-stands
returns-in_err-length-clause-stands g c =
    call-stands (lit< tt) refl (together g.met.C.Field.laws g.met.C.Carried.lays g.met.S.Source.laws g.met.D.Link.laws g.met.R.Link.laws)
    (state_of c.args.self.now) _ (send c.from_residual.result) (refl, returns-in_err-length-clause-exact g c)

pub returns-clause-exact : goal.returns-clause-exact
returns-clause-exact g c =
    let m = g.C.Field.means in
    let window = c.args.self.now.sender.window in
    let slots = g.S.Source.means.slots c.args.self.now.sender.source m.q (width window) in
    let lays = g.met.C.Carried.lays in
    let short = lays.short in
    let long = frame-length m lays refl (combined 32 m window slots) in
    grind (arith, common_steps, take_at)

pub returns-clause-goes_on : goal.returns-clause-goes_on
returns-clause-goes_on g c = λ source forward reverse log run. (state_of c.args.self.now, run, (refl, returns-clause-exact g c))

pub returns-clause-stands : goal.returns-clause-stands
returns-clause-stands g c =
    call-stands (lit< tt) refl (together g.met.C.Field.laws g.met.C.Carried.lays g.met.S.Source.laws g.met.D.Link.laws g.met.R.Link.laws)
    (state_of c.args.self.now) _ (send (Ok c.in_ok-length.length)) (refl, returns-clause-exact g c)
