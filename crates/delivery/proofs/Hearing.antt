-- A hear, and what the program keeps of it.
use Rattle.std.proofs.Common.{◌≡◌, ℕ, Bool, false, ◌&&◌, leb, List, ◌∷◌, Some, None, Ok, Err, Option, Result, sym, refl, ap, ◌∙◌, subst}
use Rattle.std.proofs.lemmas.Bool.{cond_both}
use Rattle.std.specs.Result.{result_transpose}
use Rattle.refusal.specs.declared.Refusal.{Refusal}
use Rattle.frame.specs.ReportFrame.{reading_report}
use Rattle.link.specs.declared.plain.PlainLink.{PlainLink}
use Rattle.link.specs.declared.scripted.ScriptedLink.{ScriptedLink}
use Rattle.sender.specs.Steps.{heeding}
use Rattle.sender.specs.declared.window.Window.{Window}
use Rattle.transfer.proofs.Ends.{window-heard}
use Rattle.transfer.specs.Log.{Event, heard}
use Rattle.transfer.specs.Parts.{Parts, State}
use Rattle.transfer.specs.Steps.{Called, called, some, hear_takes, heeds, hears}
use Rattle.delivery.specs.declared.progress.Progress.{Progress}
use Rattle.delivery.specs.Follows.{Follows}
use Rattle.delivery.specs.Rounds.{Course, found_none, hear_one}
use Rattle.delivery.proofs.Answers.{transposed_some, transposed_none}
use Rattle.delivery.proofs.Courses.{heard-course, runs_on}

-- an answer has the window's number
abbrev Told : Result (Option (ℕ × ℕ)) Refusal → ℕ → Type 0
Told (Ok None) n = Unit {0}
Told (Ok (Some numbers)) n = numbers.0 ≡ n
Told (Err e) n = Unit {0}

heeding-told : (x : Window) (r : Result (ℕ × ℕ) Refusal) → Told (some (heeding x r).0) (heeding x r).1.heard
heeding-told x (Err e) = tt
heeding-told x (Ok n) =
    cond_both (leb n.0 n.1 && leb n.1 x.admitted) _ _ (λ (z : Result (ℕ × ℕ) Refusal × Window). Told (some z.0) z.1.heard) (λ _. refl) (λ _. tt)

abbrev pub with_heard : {C : Type 0} → ℕ → Progress C → Progress C
with_heard n v = record { heard = n; released = v.released; tally = v.tally; numbers = v.numbers; filling = v.filling }

module _
    {S : Type 0} (p : Parts S ScriptedLink PlainLink) (σ τ : State S ScriptedLink PlainLink)
    (r : Result (Option (ℕ × ℕ)) Refusal) (e : called r τ ≡ hears 32 p σ)
  where
    told : Told r τ.window.heard
    told = subst (λ (z : Called (Option (ℕ × ℕ)) S ScriptedLink PlainLink). Told z.answer z.state.window.heard) (sym e) (go (p.reverse.first σ.reverse))
      where
        go : (o : Option (List ℕ)) → (λ (z : Called (Option (ℕ × ℕ)) S ScriptedLink PlainLink). Told z.answer z.state.window.heard) (heeds 32 p σ o)
        go None = tt
        go (Some f) = heeding-told σ.window (reading_report f)

    -- one link is as before, the other as after a take
    pub links_are : (τ.forward ≡ σ.forward) × (τ.reverse ≡ p.reverse.rest σ.reverse)
    links_are =
        subst (λ (z : Called (Option (ℕ × ℕ)) S ScriptedLink PlainLink). (z.state.forward ≡ σ.forward) × (z.state.reverse ≡ p.reverse.rest σ.reverse)) (sym e)
        (go (p.reverse.first σ.reverse))
      where
        go : (o : Option (List ℕ)) → ((heeds 32 p σ o).state.forward ≡ σ.forward) × ((heeds 32 p σ o).state.reverse ≡ p.reverse.rest σ.reverse)
        go None = (refl, refl)
        go (Some f) = (refl, refl)

    -- where it did not answer none, a report was there
    pub heard_took : found_none r ≡ false → (f : List ℕ) × (p.reverse.first σ.reverse ≡ Some f)
    heard_took some-came = go (p.reverse.first σ.reverse) refl e
      where
        go : (o : Option (List ℕ)) → p.reverse.first σ.reverse ≡ o → called r τ ≡ heeds 32 p σ o → (f : List ℕ) × (p.reverse.first σ.reverse ≡ Some f)
        go None is e = absurd (cc (some-came, ap (λ (z : Called (Option (ℕ × ℕ)) S ScriptedLink PlainLink). found_none z.answer) e))
        go (Some f) is e = (f, is)

module _
    {S C : Type 0} (p : Parts S ScriptedLink PlainLink) (file before : List ℕ) (shut : Bool) (t : ℕ) (c : Course S ScriptedLink PlainLink)
    (σ τ : State S ScriptedLink PlainLink) (v : Progress C) (buffer : List ℕ) (h : Follows p file before shut t c σ v buffer)
  where
    keeps : (r : Result (Option (ℕ × ℕ)) Refusal) → called r τ ≡ hears 32 p σ → (n : ℕ) → (heard (Event.hear (hear_takes 32 p σ) r ∷ c.log)).0 ≡ n
        → Follows p file before shut t (hear_one 32 p c) τ (with_heard n v) buffer
    keeps r e n is =
        subst (λ (d : Course S ScriptedLink PlainLink). Follows p file before shut t d τ (with_heard n v) buffer) (sym (heard-course p c σ τ h.state r e))
        (record {
          state = refl;
          numbers = h.numbers;
          runs = runs_on p file shut t c.log σ τ h.runs (Event.hear (hear_takes 32 p σ) r) (refl, e) refl refl;
          heard = is;
          tally = h.tally;
          releases = h.releases;
          filled = h.filled;
        })

    pub heard-none : called (Ok None) τ ≡ hears 32 p σ → Follows p file before shut t (hear_one 32 p c) τ v buffer
    heard-none e = keeps (Ok None) e v.heard h.heard

    pub heard-refused : (why : Refusal) → called (Err why) τ ≡ hears 32 p σ → Follows p file before shut t (hear_one 32 p c) τ v buffer
    heard-refused why e = keeps (Err why) e v.heard h.heard

    pub heard-some : (numbers : ℕ × ℕ) → called (Ok (Some numbers)) τ ≡ hears 32 p σ → Follows p file before shut t (hear_one 32 p c) τ (with_heard numbers.0 v) buffer
    heard-some numbers e =
        let r = h.runs in
        let log = Event.hear (hear_takes 32 p σ) (Ok (Some numbers)) ∷ c.log in
        keeps (Ok (Some numbers)) e numbers.0
        (sym (window-heard 32 p r.source r.forward r.reverse log τ (σ, r.run, (refl, e))).0 ∙ sym (told p σ τ (Ok (Some numbers)) e))

-- what a hear answered, once it is known whether it took a report
module _
    {S : Type 0} (p : Parts S ScriptedLink PlainLink) (σ τ : State S ScriptedLink PlainLink)
    (r : Result (Option (ℕ × ℕ)) Refusal) (e : called r τ ≡ hears 32 p σ)
    (o : Option (Result (ℕ × ℕ) Refusal)) (is : o ≡ result_transpose r)
  where
    pub told-some : (a : Result (ℕ × ℕ) Refusal) → o ≡ Some a → called (some a) τ ≡ hears 32 p σ
    told-some a came = ap (λ (x : Result (Option (ℕ × ℕ)) Refusal). called x τ) (sym (transposed_some r a (sym is ∙ came))) ∙ e

    pub told-none : o ≡ None → called (Ok None) τ ≡ hears 32 p σ
    told-none came = ap (λ (x : Result (Option (ℕ × ℕ)) Refusal). called x τ) (sym (transposed_none r (sym is ∙ came))) ∙ e
