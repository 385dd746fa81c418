use Rattle.std.proofs.Common.{None, Ok, Err, refl, lit<, arith, rules}
use Rattle.std.proofs.lemmas.Grind.{common_steps}
use Rattle.refusal.specs.declared.Refusal.TheVariants.{ShortBuffer}
use Rattle.transfer.specs.Calls.{state_of, fetch}
use Rattle.transfer.proofs.Following.{together, call-stands}
use Rattle.transfer.proofs.Transfer.fetch.Goals as goal

pub returns-then-numbers-clause-exact : goal.returns-then-numbers-clause-exact
returns-then-numbers-clause-exact g c = search rules

pub returns-then-numbers-clause-goes_on : goal.returns-then-numbers-clause-goes_on
returns-then-numbers-clause-goes_on g c = λ source forward reverse log run. (state_of c.args.self.now, run, (refl, returns-then-numbers-clause-exact g c))

pub returns-then-numbers-clause-stands : goal.returns-then-numbers-clause-stands
returns-then-numbers-clause-stands g c =
    call-stands (lit< tt) refl (together g.met.C.Field.laws g.met.C.Carried.lays g.met.S.Source.laws g.met.D.Link.laws g.met.R.Link.laws)
    (state_of c.args.self.now) _ (fetch c.args.numbers.now (Err ShortBuffer) c.args.numbers.now) (refl, returns-then-numbers-clause-exact g c)

pub returns-in_default-clause-exact : goal.returns-in_default-clause-exact
returns-in_default-clause-exact g c = search rules

pub returns-in_default-clause-goes_on : goal.returns-in_default-clause-goes_on
returns-in_default-clause-goes_on g c = λ source forward reverse log run. (state_of c.args.self.now, run, (refl, returns-in_default-clause-exact g c))

pub returns-in_default-clause-stands : goal.returns-in_default-clause-stands
returns-in_default-clause-stands g c =
    call-stands (lit< tt) refl (together g.met.C.Field.laws g.met.C.Carried.lays g.met.S.Source.laws g.met.D.Link.laws g.met.R.Link.laws)
    (state_of c.args.self.now) _ (fetch c.args.numbers.now (Ok None) c.args.numbers.now) (refl, returns-in_default-clause-exact g c)

pub returns-clause-exact : goal.returns-clause-exact
returns-clause-exact g c = grind (arith, common_steps)

pub returns-clause-goes_on : goal.returns-clause-goes_on
returns-clause-goes_on g c = λ source forward reverse log run. (state_of c.args.self.now, run, (refl, returns-clause-exact g c))

pub returns-clause-stands : goal.returns-clause-stands
returns-clause-stands g c =
    call-stands (lit< tt) refl (together g.met.C.Field.laws g.met.C.Carried.lays g.met.S.Source.laws g.met.D.Link.laws g.met.R.Link.laws)
    (state_of c.args.self.now) _ (fetch c.args.numbers.now c.map.result c.arrive-answer.new.numbers) (refl, returns-clause-exact g c)
