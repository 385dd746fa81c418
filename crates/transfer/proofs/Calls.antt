-- What a call leads to, case by case: what holds in each case holds of every call.
use Rattle.std.proofs.Common.{◌≡◌, ℕ, ◌*◌, ◌≤◌, Bool, true, false, cond, eqb, ltb, List, [], ◌∷◌, length, Some, None, Ok, Err, Option, Result, sym, refl, subst}
use Rattle.std.proofs.lemmas.Bool.{cond_both, eqb-false, ltb-false}
use Rattle.refusal.specs.declared.Refusal.{Refusal}
use Rattle.refusal.specs.declared.Refusal.TheVariants.{ShortBuffer, WindowEmpty}
use Rattle.sender.specs.Steps.{admitting, hearing}
use Rattle.sender.specs.declared.window.Window.{Window}
use Rattle.receiver.specs.Arrival.{Outcome, arrived}
use Rattle.transfer.specs.Log.{Event}
use Rattle.transfer.specs.Parts.{Parts, State, started}
use Rattle.transfer.specs.Run.{Leads, Run}
use Rattle.transfer.specs.Steps.{Called, Fetched, fetched, some, with_window, coded, with_sent}
use Rattle.transfer.specs.Steps.{sends, fetch_takes, with_taken, with_arrived, receives, hear_takes, with_heard, heeds}

module _ {S D R : Type 0} (w : ℕ) (p : Parts S D R) where
  module _ (σ : State S D R) where
    -- what the sender makes of a packet or a report, and the receiver of a frame
    abbrev pub admission : List ℕ → Result ℕ Refusal × Window
    admission packet = admitting w p.means σ.window packet

    abbrev pub hearsay : List ℕ → Result (ℕ × ℕ) Refusal × Window
    hearsay report = hearing σ.window report

    abbrev pub outcome : List ℕ → List ℕ → Outcome
    outcome frame numbers = arrived p.means p.carries w σ.receiver frame numbers

    -- a call from σ, with the state that it leads to, in each of its cases
    pub record Each (P : Event → State S D R → Type 0) : Type 0 where
      pub admits : (packet : List ℕ) → P (Event.admit packet (admission packet).0) (with_window w p (admission packet).1 σ)
      pub seals : P Event.seal σ
      pub sends_none : P (Event.send (coded w p σ) (Err WindowEmpty)) σ
      pub sends : (σ.window.unseen ≡ σ.window.admitted → ⊥) → P (Event.send (coded w p σ) (Ok p.carries.len)) (with_sent w p σ)
      pub fetches_short : (numbers : List ℕ) → P (Event.fetch None numbers (Err ShortBuffer) numbers) σ
      pub fetches_none : (numbers : List ℕ) → P (Event.fetch None numbers (Ok None) numbers) (with_taken w p σ)
      pub fetches : (numbers frame : List ℕ) → w * 128 ≤ length numbers → p.forward.first σ.forward ≡ Some frame
          → P (Event.fetch (Some frame) numbers (some (outcome frame numbers).answer) (outcome frame numbers).numbers) (with_arrived w p σ (outcome frame numbers))
      pub hears_none : P (Event.hear None (Ok None)) (with_heard w p σ.window σ)
      pub hears : (report : List ℕ) → p.reverse.first σ.reverse ≡ Some report
          → P (Event.hear (Some report) (some (hearsay report).0)) (with_heard w p (hearsay report).1 σ)

    module _ (P : Event → State S D R → Type 0) (each : Each P) where
      received : (numbers : List ℕ) → w * 128 ≤ length numbers → (o : Option (List ℕ)) → p.forward.first σ.forward ≡ o
          → (λ (z : Fetched S D R). P (Event.fetch o numbers z.answer z.numbers) z.state) (receives w p σ numbers o)
      received numbers room None e = each.fetches_none numbers
      received numbers room (Some frame) e = each.fetches numbers frame room e

      heeded : (o : Option (List ℕ)) → p.reverse.first σ.reverse ≡ o
          → (λ (z : Called (Option (ℕ × ℕ)) S D R). P (Event.hear o z.answer) z.state) (heeds w p σ o)
      heeded None e = each.hears_none
      heeded (Some report) e = each.hears report e

      sent : (λ (z : Called ℕ S D R). P (Event.send (coded w p σ) z.answer) z.state) (sends w p σ)
      sent =
          cond_both (eqb σ.window.unseen σ.window.admitted) _ _ (λ (z : Called ℕ S D R). P (Event.send (coded w p σ) z.answer) z.state)
          (λ _. each.sends_none) (λ e. each.sends (eqb-false _ _ e))

      fetched_so : (numbers : List ℕ) (b : Bool) → ltb (length numbers) (w * 128) ≡ b
          → (λ (o : Option (List ℕ)) (z : Fetched S D R). P (Event.fetch o numbers z.answer z.numbers) z.state)
          (cond b None (p.forward.first σ.forward)) (cond b (fetched (Err ShortBuffer) σ numbers) (receives w p σ numbers (p.forward.first σ.forward)))
      fetched_so numbers true e = each.fetches_short numbers
      fetched_so numbers false e = received numbers (ltb-false _ _ e) (p.forward.first σ.forward) refl

      pub by_case : (e : Event) (τ : State S D R) → Leads w p e σ τ → P e τ
      by_case (Event.admit packet answer) τ is =
          subst (λ (z : Called ℕ S D R). P (Event.admit packet z.answer) z.state) (sym is) (each.admits packet)
      by_case Event.seal τ is = subst (P Event.seal) (sym is) each.seals
      by_case (Event.send frame answer) τ (frame_is, is) =
          subst (λ (f : List ℕ). P (Event.send f answer) τ) (sym frame_is)
          (subst (λ (z : Called ℕ S D R). P (Event.send (coded w p σ) z.answer) z.state) (sym is) sent)
      by_case (Event.fetch frame before answer after) τ (frame_is, is) =
          subst (λ (o : Option (List ℕ)). P (Event.fetch o before answer after) τ) (sym frame_is)
          (subst (λ (z : Fetched S D R). P (Event.fetch (fetch_takes w p σ before) before z.answer z.numbers) z.state) (sym is)
          (fetched_so before (ltb (length before) (w * 128)) refl))
      by_case (Event.hear frame answer) τ (frame_is, is) =
          subst (λ (o : Option (List ℕ)). P (Event.hear o answer) τ) (sym frame_is)
          (subst (λ (z : Called (Option (ℕ × ℕ)) S D R). P (Event.hear (hear_takes w p σ) z.answer) z.state) (sym is)
          (heeded (p.reverse.first σ.reverse) refl))

  -- what holds of a new transfer, and goes on from call to call, holds after every log
  pub by_run : (x : S) (a : D) (b : R) (P : List Event → State S D R → Type 0) → P [] (started w x a b)
      → ((log : List Event) (σ : State S D R) → Run w p x a b log σ → P log σ → Each σ (λ e. P (e ∷ log)))
      → (log : List Event) (σ : State S D R) → Run w p x a b log σ → P log σ
  by_run x a b P new step [] σ is = subst (P []) (sym is) new
  by_run x a b P new step (e ∷ log) τ (σ, run, leads) =
      by_case σ (λ e. P (e ∷ log)) (step log σ run (by_run x a b P new step log σ run)) e τ leads
