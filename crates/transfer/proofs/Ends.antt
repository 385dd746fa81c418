-- Whatever waits on the links, the receiver's calls are a run of a receiver, and the window is that of a sender that admitted
-- the admitted packets and heard the numbers heard.
use Rattle.std.proofs.Common.{◌≡◌, ℕ, ◌+◌, ◌≤◌, ◌&&◌, eqb, leb, List, [], ◌∷◌, Some, Ok, Err, Result, sym, refl, subst, arith}
use Rattle.std.proofs.lemmas.Bool.{and_parts, cond_both, eqb-false, leb-true}
use Rattle.refusal.specs.declared.Refusal.{Refusal}
use Rattle.field.specs.Field.{Means}
use Rattle.carried.specs.Carries.{Carries}
use Rattle.frame.specs.ReportFrame.{reading_report}
use Rattle.sender.proofs.Keeping.{holds-none, admitting_appends, hearing_keeps}
use Rattle.sender.specs.Packets.{Holds}
use Rattle.sender.specs.Steps.{Sound, admitting, is_packet_lem, heeding}
use Rattle.sender.specs.declared.window.Window.{Window}
use Rattle.receiver.specs.Log.{Arrival, call}
use Rattle.receiver.specs.Run.{Run as Receiver-run}
use Rattle.receiver.specs.declared.state.Answer.{Answer}
use Rattle.receiver.specs.declared.state.State.{State as Receiver-state}
use Rattle.transfer.specs.Log.{Event, arriving, arrivals, admitted, hearing, heard}
use Rattle.transfer.specs.Parts.{Parts, State, started}
use Rattle.transfer.specs.Run.{Run}
use Rattle.transfer.specs.Steps.{some}
use Rattle.transfer.proofs.Calls.{outcome, Each, by_run}

-- a fetch that took a frame made one more call, whatever its answer
pub one-call : (frame before after : List ℕ) (r : Result Answer Refusal) (calls : List Arrival)
    → arriving (Some frame) before (some r) after calls ≡ call frame before r after ∷ calls
one-call frame before after (Ok x) calls = refl
one-call frame before after (Err e) calls = refl

-- the window's numbers are the greatest heard
abbrev pub Numbers : ℕ × ℕ → Window → Type 0
Numbers numbers x = (x.heard ≡ numbers.0) × (x.unseen ≡ numbers.1)

module _ (w : ℕ) (m : Means) (x : Window) (sound : Sound w x) where
  -- admitting and hearing leave the numbers sound
  admitting-sound : (packet : List ℕ) → Sound w (admitting w m x packet).1
  admitting-sound packet =
      let P : Result ℕ Refusal × Window → Type 0 = λ z. Sound w z.1 in
      cond_both (is_packet_lem m.q packet) _ _ P
      (λ _. cond_both (eqb x.admitted 65536) _ _ P (λ _. sound)
      (λ full. cond_both (eqb x.admitted (x.heard + w)) _ _ P (λ _. sound)
      (λ room. let a = eqb-false _ _ full in let b = eqb-false _ _ room in (sound.0, omega arith, omega arith, omega arith))))
      (λ _. sound)

  heeding-sound : (r : Result (ℕ × ℕ) Refusal) → Sound w (heeding x r).1
  heeding-sound (Err e) = sound
  heeding-sound (Ok n) =
      cond_both (leb n.0 n.1 && leb n.1 x.admitted) _ _ (λ (z : Result (ℕ × ℕ) Refusal × Window). Sound w z.1)
      (λ good.
      let both = and_parts (leb n.0 n.1) (leb n.1 x.admitted) good in
      let a : n.0 ≤ n.1 = leb-true _ _ both.0 in
      let b : n.1 ≤ x.admitted = leb-true _ _ both.1 in
      (omega arith, omega arith, omega arith, omega arith))
      (λ _. sound)

-- admitting leaves what was heard
admitting-numbers : (w : ℕ) (m : Means) (x : Window) (numbers : ℕ × ℕ) → Numbers numbers x → (packet : List ℕ) → Numbers numbers (admitting w m x packet).1
admitting-numbers w m x numbers h packet =
    let P : Result ℕ Refusal × Window → Type 0 = λ z. Numbers numbers z.1 in
    cond_both (is_packet_lem m.q packet) _ _ P
    (λ _. cond_both (eqb x.admitted 65536) _ _ P (λ _. h) (λ _. cond_both (eqb x.admitted (x.heard + w)) _ _ P (λ _. h) (λ _. h)))
    (λ _. h)

-- an answer of hear is what the window then has
heeding-numbers : (x : Window) (numbers : ℕ × ℕ) → Numbers numbers x → (r : Result (ℕ × ℕ) Refusal)
    → Numbers (hearing (some (heeding x r).0) numbers) (heeding x r).1
heeding-numbers x numbers h (Err e) = h
heeding-numbers x numbers h (Ok n) =
    cond_both (leb n.0 n.1 && leb n.1 x.admitted) _ _ (λ (z : Result (ℕ × ℕ) Refusal × Window). Numbers (hearing (some z.0) numbers) z.1)
    (λ _. let a = h.0 in let b = h.1 in (omega arith, omega arith)) (λ _. h)

-- by the receiver's calls and its state, the admitted packets, the numbers heard and the window
record EndsKeep (m : Means) (carries : Carries) (w : ℕ) (calls : List Arrival) (packets : List (List ℕ)) (numbers : ℕ × ℕ)
    (c : Receiver-state) (x : Window) : Type 0 where
  receiver : Receiver-run m carries w calls c
  sound : Sound w x
  holds : Holds w m.q packets x
  numbers_are : Numbers numbers x

module _ {S D R : Type 0} (w : ℕ) (p : Parts S D R) where
  abbrev Ends : List Event → State S D R → Type 0
  Ends log σ = EndsKeep p.means p.carries w (arrivals log) (admitted log) (heard log) σ.receiver σ.window

  module _ (log : List Event) (σ : State S D R) (h : Ends log σ) where
    step : Each w p σ (λ e. Ends (e ∷ log))
    step = record {
      admits = λ packet. record {
        receiver = h.receiver;
        sound = admitting-sound w p.means σ.window h.sound packet;
        holds = admitting_appends w p.means σ.window h.sound packet _ _ refl (admitted log) h.holds;
        numbers_are = admitting-numbers w p.means σ.window (heard log) h.numbers_are packet;
      };
      seals = h;
      sends_none = h;
      sends = λ _. h;
      fetches_short = λ _. h;
      fetches_none = λ _. h;
      fetches = λ numbers frame _ _. let o = outcome w p σ frame numbers in record {
        receiver = subst (λ calls. Receiver-run p.means p.carries w calls o.state) (sym (one-call frame numbers o.numbers o.answer (arrivals log)))
            (σ.receiver, h.receiver, refl);
        sound = h.sound;
        holds = h.holds;
        numbers_are = h.numbers_are;
      };
      hears_none = h;
      hears = λ report _. record {
        receiver = h.receiver;
        sound = heeding-sound w p.means σ.window h.sound (reading_report report);
        holds = hearing_keeps w p.means σ.window h.sound p.means.q report _ _ refl (admitted log) h.holds;
        numbers_are = heeding-numbers σ.window (heard log) h.numbers_are (reading_report report);
      };
    }

  module _ (x : S) (a : D) (b : R) where
    ends : (log : List Event) (σ : State S D R) → Run w p x a b log σ → Ends log σ
    ends = by_run w p x a b Ends new (λ log σ _. step log σ)
      where
        new : Ends [] (started w x a b)
        new = record {
          receiver = refl;
          sound = (omega arith, omega arith, omega arith, omega arith);
          holds = holds-none w p.means.q;
          numbers_are = (refl, refl);
        }

    pub receiver-run : (log : List Event) (σ : State S D R) → Run w p x a b log σ → Receiver-run p.means p.carries w (arrivals log) σ.receiver
    receiver-run log σ run = (ends log σ run).receiver

    pub sound : (log : List Event) (σ : State S D R) → Run w p x a b log σ → Sound w σ.window
    sound log σ run = (ends log σ run).sound

    pub holds : (log : List Event) (σ : State S D R) → Run w p x a b log σ → Holds w p.means.q (admitted log) σ.window
    holds log σ run = (ends log σ run).holds

    pub window-heard : (log : List Event) (σ : State S D R) → Run w p x a b log σ → Numbers (heard log) σ.window
    window-heard log σ run = (ends log σ run).numbers_are
