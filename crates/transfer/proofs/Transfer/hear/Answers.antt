use Rattle.std.proofs.Common.{◌≡◌, ℕ, ◌&&◌, leb, List, IfErr, Some, None, Ok, Err, Option, Result, sym, refl, subst, lit<, rules}
use Rattle.std.proofs.lemmas.Bool.{cond_both}
use Rattle.refusal.specs.declared.Refusal.{Refusal}
use Rattle.frame.specs.ReportFrame.{reading_report}
use Rattle.sender.specs.Steps.{heeding}
use Rattle.sender.specs.declared.window.Window.{Window}
use Rattle.transfer.specs.Calls.{state_of, hear}
use Rattle.transfer.specs.Parts.{Parts, State, parts}
use Rattle.transfer.specs.Steps.{Called, called, some, with_heard, heeds, hears}
use Rattle.transfer.proofs.Following.{together, call-stands}
use Rattle.transfer.proofs.Transfer.hear.Goals as goal

-- a report that was taken and refused changes nothing else
module _ {S D R : Type 0} (w : ℕ) (p : Parts S D R) (σ : State S D R) where
  abbrev Dropped : Called (Option (ℕ × ℕ)) S D R → Type 0
  Dropped z = IfErr z.answer (λ _. z.state ≡ with_heard w p σ.window σ)

  heard : (r : Result (ℕ × ℕ) Refusal) → (λ (o : Result (ℕ × ℕ) Refusal × Window). Dropped (called (some o.0) (with_heard w p o.1 σ))) (heeding σ.window r)
  heard (Err refusal) = refl
  heard (Ok n) =
      cond_both (leb n.0 n.1 && leb n.1 σ.window.admitted) _ _ (λ (o : Result (ℕ × ℕ) Refusal × Window). Dropped (called (some o.0) (with_heard w p o.1 σ)))
      (λ _. tt) (λ _. refl)

  heeded : (o : Option (List ℕ)) → Dropped (heeds w p σ o)
  heeded None = tt
  heeded (Some frame) = heard (reading_report frame)

  dropped : (z : Called (Option (ℕ × ℕ)) S D R) → z ≡ hears w p σ → Dropped z
  dropped z e = subst Dropped (sym e) (heeded (p.reverse.first σ.reverse))

pub returns-in_default-clause-exact : goal.returns-in_default-clause-exact
returns-in_default-clause-exact g c = search rules

pub returns-in_default-clause-goes_on : goal.returns-in_default-clause-goes_on
returns-in_default-clause-goes_on g c = λ source forward reverse log run. (state_of c.args.self.now, run, (refl, returns-in_default-clause-exact g c))

pub returns-in_default-clause-stands : goal.returns-in_default-clause-stands
returns-in_default-clause-stands g c =
    call-stands (lit< tt) refl (together g.met.C.Field.laws g.met.C.Carried.lays g.met.S.Source.laws g.met.D.Link.laws g.met.R.Link.laws)
    (state_of c.args.self.now) _ (hear (Ok None)) (refl, returns-in_default-clause-exact g c)

pub returns-clause-exact : goal.returns-clause-exact
returns-clause-exact g c = search rules

pub returns-clause-unchanged : goal.returns-clause-unchanged
returns-clause-unchanged g c =
    dropped 32 (parts g.C.Field.means g.C.Carried.carries g.S.Source.means g.D.Link.means g.R.Link.means) (state_of c.args.self.now)
    (called c.map.result (state_of record { sender = c.hear.new.self; receiver = c.args.self.now.receiver; forward = c.args.self.now.forward; reverse = c.take_frame.new.link })) (returns-clause-exact g c)

pub returns-clause-goes_on : goal.returns-clause-goes_on
returns-clause-goes_on g c = λ source forward reverse log run. (state_of c.args.self.now, run, (refl, returns-clause-exact g c))

pub returns-clause-stands : goal.returns-clause-stands
returns-clause-stands g c =
    call-stands (lit< tt) refl (together g.met.C.Field.laws g.met.C.Carried.lays g.met.S.Source.laws g.met.D.Link.laws g.met.R.Link.laws)
    (state_of c.args.self.now) _ (hear c.map.result) (refl, returns-clause-exact g c)
