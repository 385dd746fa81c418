-- The newest send of a log that was not refused: what was before it, the frame that it put and the draw that it made.
use Rattle.std.proofs.Common.{◌≡◌, ℕ, ◌*◌, eqb, ltb, List, [], ◌∷◌, length, Some, None, Ok, Err, Option, Result, sym, refl, ap, ◌∙◌, subst, arith}
use mathlib.Core.List.{Memᴰ}
use Rattle.std.proofs.lemmas.Bool.{cond_both, eqb-false}
use Rattle.refusal.specs.declared.Refusal.{Refusal}
use Rattle.carried.specs.Carries.{Carries}
use Rattle.algebra.specs.Frames.{Frame}
use Rattle.sender.specs.Steps.{width}
use Rattle.receiver.specs.Log.{Arrival, accepted}
use Rattle.receiver.specs.declared.state.Answer.{Answer}
use Rattle.transfer.specs.Log.{Event, Sending, arriving, arrivals, admitted, dropped, sendings}
use Rattle.transfer.specs.Parts.{Parts, State}
use Rattle.transfer.specs.Run.{Run}
use Rattle.transfer.specs.Steps.{Called, called, Fetched, fetched, coded, sends, receives, fetches, heeds, hears}

same_head : {A : Type 0} {x y : A} {xs ys : List A} → x ∷ xs ≡ y ∷ ys → x ≡ y
same_head e = cc

same_tail : {A : Type 0} {x y : A} {xs ys : List A} → x ∷ xs ≡ y ∷ ys → xs ≡ ys
same_tail e = cc

-- a fetch accepts no fewer frames
arriving_keeps : (carries : Carries) (w : ℕ) (frame : Option (List ℕ)) (before : List ℕ) (answer : Result (Option Answer) Refusal) (after : List ℕ)
    (calls : List Arrival) (f : Frame) → Memᴰ f (accepted carries w calls) → Memᴰ f (accepted carries w (arriving frame before answer after calls))
arriving_keeps carries w None before answer after calls f i = i
arriving_keeps carries w (Some frame) before (Ok None) after calls f i = i
arriving_keeps carries w (Some frame) before (Ok (Some answer)) after calls f i = Memᴰ.tail i
arriving_keeps carries w (Some frame) before (Err refusal) after calls f i = i

module _ {S D R : Type 0} (w : ℕ) (p : Parts S D R) where
  -- only a send that is not refused draws
  abbrev Drawing : State S D R → Result ℕ Refusal → State S D R → Type 0
  Drawing σ (Ok size) τ =
      (σ.window.unseen ≡ σ.window.admitted → ⊥) × (τ.source ≡ p.draws.next σ.source p.means.q (width σ.window))
  Drawing σ (Err refusal) τ = τ.source ≡ σ.source

  send-draws : (σ τ : State S D R) (answer : Result ℕ Refusal) → called answer τ ≡ sends w p σ → Drawing σ answer τ
  send-draws σ τ answer e =
      let P : Called ℕ S D R → Type 0 = λ z. Drawing σ z.answer z.state in
      subst P (sym e) (cond_both (eqb σ.window.unseen σ.window.admitted) _ _ P (λ _. refl) (λ some. (eqb-false _ _ some, refl)))

  fetch_keeps : (σ τ : State S D R) (before : List ℕ) (answer : Result (Option Answer) Refusal) (after : List ℕ)
      → fetched answer τ after ≡ fetches w p σ before → τ.source ≡ σ.source
  fetch_keeps σ τ before answer after e =
      ap (λ (z : Fetched S D R). z.state.source) e
      ∙ cond_both (ltb (length before) (w * 128)) _ _ (λ (z : Fetched S D R). z.state.source ≡ σ.source)
      (λ _. refl) (λ _. taking (p.forward.first σ.forward))
    where
      taking : (o : Option (List ℕ)) → (receives w p σ before o).state.source ≡ σ.source
      taking None = refl
      taking (Some frame) = refl

  hear_keeps : (σ τ : State S D R) (answer : Result (Option (ℕ × ℕ)) Refusal) → called answer τ ≡ hears w p σ → τ.source ≡ σ.source
  hear_keeps σ τ answer e = ap (λ (z : Called (Option (ℕ × ℕ)) S D R). z.state.source) e ∙ taking (p.reverse.first σ.reverse)
    where
      taking : (o : Option (List ℕ)) → (heeds w p σ o).state.source ≡ σ.source
      taking None = refl
      taking (Some frame) = refl

  module _ (x : S) (a : D) (b : R) where
    -- the log just before this send, with the frame that it put, its window and its draw; none drew since
    pub record Sent (log : List Event) (τ : State S D R) (s : Sending) (older : List Sending) : Type 0 where
      pub past : List Event
      pub state : State S D R
      pub run : Run w p x a b past state
      pub before : sendings past ≡ older
      pub frame : s.frame ≡ coded w p state
      pub from : s.from ≡ dropped past
      pub to : s.to ≡ length (admitted past)
      pub some : state.window.unseen ≡ state.window.admitted → ⊥
      pub drawn : τ.source ≡ p.draws.next state.source p.means.q (width state.window)
      pub kept : (f : Frame) → Memᴰ f (accepted p.carries w (arrivals past)) → Memᴰ f (accepted p.carries w (arrivals log))

    -- a call that draws nothing
    undrawn : {log later : List Event} {σ τ : State S D R} {s : Sending} {older : List Sending} → τ.source ≡ σ.source
        → ((f : Frame) → Memᴰ f (accepted p.carries w (arrivals log)) → Memᴰ f (accepted p.carries w (arrivals later)))
        → Sent log σ s older → Sent later τ s older
    undrawn same more h = record {
      past = h.past;
      state = h.state;
      run = h.run;
      before = h.before;
      frame = h.frame;
      from = h.from;
      to = h.to;
      some = h.some;
      drawn = same ∙ h.drawn;
      kept = λ f i. more f (h.kept f i);
    }

    pub newest : (log : List Event) (τ : State S D R) → Run w p x a b log τ → (s : Sending) (older : List Sending) → sendings log ≡ s ∷ older
        → Sent log τ s older
    newest [] τ run s older e = absurd (let z : ◌≡◌ {A = ℕ} 0 (length (s ∷ older)) = ap length e in omega arith)
    newest (Event.admit packet answer ∷ log) τ (σ, run, leads) s older e =
        undrawn (ap (λ (z : Called ℕ S D R). z.state.source) leads) (λ f i. i) (newest log σ run s older e)
    newest (Event.seal ∷ log) τ (σ, run, leads) s older e =
        undrawn (ap (λ (z : State S D R). z.source) leads) (λ f i. i) (newest log σ run s older e)
    newest (Event.send frame (Ok size) ∷ log) τ (σ, run, leads) s older e =
        let draws = send-draws σ τ (Ok size) leads.1 in
        record {
          past = log;
          state = σ;
          run = run;
          before = same_tail e;
          frame = sym (ap (λ (z : Sending). z.frame) (same_head e)) ∙ leads.0;
          from = sym (ap (λ (z : Sending). z.from) (same_head e));
          to = sym (ap (λ (z : Sending). z.to) (same_head e));
          some = draws.0;
          drawn = draws.1;
          kept = λ f i. i;
        }
    newest (Event.send frame (Err refusal) ∷ log) τ (σ, run, leads) s older e =
        undrawn (send-draws σ τ (Err refusal) leads.1) (λ f i. i) (newest log σ run s older e)
    newest (Event.fetch frame before answer after ∷ log) τ (σ, run, leads) s older e =
        undrawn (fetch_keeps σ τ before answer after leads.1) (arriving_keeps p.carries w frame before answer after (arrivals log)) (newest log σ run s older e)
    newest (Event.hear frame answer ∷ log) τ (σ, run, leads) s older e =
        undrawn (hear_keeps σ τ answer leads.1) (λ f i. i) (newest log σ run s older e)
