-- What every log keeps, where no frame waited on the links at first: whatever waits on them, or was accepted or taken, was
-- sent by this sender or reported by this receiver.
use Rattle.std.proofs.Common.{◌≡◌, ℕ, ◌+◌, ◌%◌, ◌<◌, ◌≤◌, ◌↔◌, List, [], ◌∷◌, ◌++◌, length, get_or, take, drop, replicate, Ok, sym, refl, ap, ◌∙◌, subst, ⊎_elim, arith}
use mathlib.Core.List.Memᴰ
use mathlib.Core.List.{Memᴰ}
use Rattle.std.proofs.lemmas.List.{ext_get_or, get_or-take, length-take-le, take-append-drop}
use Rattle.std.proofs.lemmas.Bool.{cases_lt}
use Rattle.frame.proofs.Frames.{read-written}
use Rattle.frame.proofs.Rules.{flawless}
use Rattle.frame.specs.DataFrame.{reading}
use Rattle.frame.specs.ReportFrame.{report_of}
use Rattle.frame.specs.declared.data.Data.{Data}
use Rattle.algebra.proofs.Frames.{row-after}
use Rattle.algebra.specs.Combinations.{rows, Seen}
use Rattle.algebra.specs.Frames.{Codes, Frame}
use Rattle.algebra.specs.Streams.{Fits, Fitting}
use Rattle.sender.proofs.Sending.{combined-proper}
use Rattle.sender.proofs.Telling.{fits}
use Rattle.sender.specs.Steps.{combined, width}
use Rattle.receiver.proofs.Faith.{promised}
use Rattle.receiver.specs.Log.{said, accepted, released, fresh_count}
use Rattle.receiver.specs.Promise.{Promise}
use Rattle.receiver.specs.Reports.{reported}
use Rattle.transfer.specs.Log.{Event, arrivals, admitted, heard, dropped, taken}
use Rattle.transfer.specs.Parts.{Parts, PartsLaws, State, started}
use Rattle.transfer.specs.Run.{Run}
use Rattle.transfer.specs.Steps.{coded}
use Rattle.transfer.proofs.Arriving.{arrival_keeps}
use Rattle.transfer.proofs.Calls.{admission, outcome, Each, by_run}
use Rattle.transfer.proofs.Coding.{coding-more, filled, filled-begins, filled-past, filled-fits}
use Rattle.transfer.proofs.Ends.{one-call, receiver-run, sound, holds, window-heard}
use Rattle.transfer.proofs.Waiting.{Coded, Keeps, coded-more, coded_later, heard-more}

-- the same of a log and the state that it leads to
abbrev Kept : {S D R : Type 0} → Parts S D R → ℕ → List Event → State S D R → Type 0
Kept p w log σ =
    Keeps p.means p.carries w (admitted log) (arrivals log) (heard log) (p.forward.waiting σ.forward) (p.reverse.waiting σ.reverse) (taken log)

module _ {S D R : Type 0} (w : ℕ) (pos : 0 < w) (whole : w % 8 ≡ 0) (p : Parts S D R) (laws : PartsLaws w p) (x : S) (a : D) (b : R) where
  module _ (log : List Event) (σ : State S D R) (run : Run w p x a b log σ) where
    -- the receiver keeps its promise, whatever waited on the links
    pub promise : Promise p.means p.carries w (arrivals log)
    promise = promised p.means laws.means p.carries w pos laws.carries whole (arrivals log) σ.receiver (receiver-run w p x a b log σ run)

    -- each admitted packet is 128 codes, and there are at most 65536
    packet-codes : (k : ℕ) → k < length (admitted log) → Codes p.means.q 128 (get_or (admitted log) k [])
    packet-codes k l = let h = holds w p x a b log σ run in h.codes k (omega (arith, h.many))

    packets-most : length (admitted log) ≤ 65536
    packets-most = let s = sound w p x a b log σ run in omega (arith, (holds w p x a b log σ run).many)

    -- the frame that a send puts
    sent_coded : (σ.window.unseen ≡ σ.window.admitted → ⊥) → Coded p.means p.carries w (admitted log) ((heard log).0 + w) (coded w p σ)
    sent_coded some =
        let s = sound w p x a b log σ run in
        let h = holds w p x a b log σ run in
        let numbers = window-heard w p x a b log σ run in
        let d = combined w p.means σ.window (p.draws.slots σ.source p.means.q (width σ.window)) in
        let proper = combined-proper w p.means laws.means p.carries p.draws laws.draws σ.window s σ.source some in
        record {
          says = d;
          read = read-written p.means laws.carries whole d proper (flawless p.means.q w d proper);
          coding = record {
            fits = fits w whole p.means laws.means p.carries laws.carries p.draws laws.draws σ.window s σ.source (admitted log) h some;
            ends = λ k l. row-after d.base d.slots d.width proper.none_past k (omega (arith, h.many));
          };
          near = omega (arith, numbers.0);
        }

    module _ (h : Kept p w log σ) where
      step : Each w p σ (λ e. Kept p w (e ∷ log))
      step = record {
        admits = λ packet. record {
          coding = λ f i. coding-more p.means (admitted log) f (h.coding f i) packet (admission w p σ packet).0;
          borne = h.borne;
          coded = λ g i. coded-more p.means p.carries w (admitted log) ((heard log).0 + w) g (h.coded g i) packet (admission w p σ packet).0;
          reports = h.reports;
          implied = h.implied;
        };
        seals = h;
        sends_none = h;
        sends = λ some. record {
          coding = h.coding;
          borne = h.borne;
          coded = λ g i. ⊎_elim (h.coded g) (λ e. subst (Coded p.means p.carries w (admitted log) ((heard log).0 + w)) (sym e) (sent_coded some))
              (laws.forward.puts σ.forward (coded w p σ) g i);
          reports = h.reports;
          implied = h.implied;
        };
        fetches_short = λ _. h;
        fetches_none = λ _. record {
          coding = h.coding;
          borne = h.borne;
          coded = λ g i. h.coded g (laws.forward.leaves σ.forward g i);
          reports = h.reports;
          implied = h.implied;
        };
        fetches = λ numbers g room e.
            let o = outcome w p σ g numbers in
            subst (λ calls. Keeps p.means p.carries w (admitted log) calls (heard log) (p.forward.waiting (p.forward.rest σ.forward))
            (p.reverse.waiting (p.reverse.put σ.reverse (report_of (reported w o.state)))) (g ∷ taken log))
            (sym (one-call g numbers o.numbers o.answer (arrivals log)))
            (arrival_keeps p.means laws.means p.carries w pos laws.carries whole
            (arrivals log) σ.receiver (receiver-run w p x a b log σ run) g numbers o.answer o.state o.numbers refl
            (admitted log) packet-codes (heard log) _ _ (taken log) h (laws.forward.takes σ.forward g e) room
            _ _ (laws.forward.leaves σ.forward) (laws.reverse.puts σ.reverse (report_of (reported w o.state))));
        hears_none = record {
          coding = h.coding;
          borne = h.borne;
          coded = h.coded;
          reports = λ g i. h.reports g (laws.reverse.leaves σ.reverse g i);
          implied = h.implied;
        };
        hears = λ g e.
            let more = heard-more p.means p.carries w (arrivals log) (heard log) h.borne σ.window (window-heard w p x a b log σ run) g
            (h.reports g (laws.reverse.takes σ.reverse g e)) in
            record {
              coding = h.coding;
              borne = more.0;
              coded = λ f i. coded_later p.means p.carries w (admitted log) ((heard log).0 + w) _ (omega (arith, more.1)) f (h.coded f i);
              reports = λ f i. h.reports f (laws.reverse.leaves σ.reverse f i);
              implied = h.implied;
            };
      }

  module _ (forth : p.forward.waiting a ≡ []) (back : p.reverse.waiting b ≡ []) where
    kept : (log : List Event) (σ : State S D R) → Run w p x a b log σ → Kept p w log σ
    kept = by_run w p x a b (Kept p w) new step
      where
        new : Kept p w [] (started w x a b)
        new = record {
          coding = λ f i. absurd (Memᴰ.not-nil i);
          borne = record { confirmed = omega arith; trimmed = λ k l. absurd (omega arith) };
          coded = λ g i. absurd (Memᴰ.not-nil (subst (Memᴰ g) forth i));
          reports = λ g i. absurd (Memᴰ.not-nil (subst (Memᴰ g) back i));
          implied = λ g i. absurd (Memᴰ.not-nil i);
        }

    module _ (log : List Event) (σ : State S D R) (run : Run w p x a b log σ) where
      pub trimmed : (k : ℕ) → k < dropped log → Seen p.means (rows (accepted p.carries w (arrivals log))) k
      trimmed = (kept log σ run).borne.trimmed

      pub confirmed : (heard log).0 ≤ length (released (arrivals log))
      confirmed = (kept log σ run).borne.confirmed

      -- no accepted row reaches past the admitted packets
      pub rows_end : (f : Frame) → Memᴰ f (accepted p.carries w (arrivals log)) → (k : ℕ) → length (admitted log) ≤ k → f.row k ≡ 0
      rows_end f i = ((kept log σ run).coding f i).ends

      -- every stream that fits the accepted frames fits all that were taken
      pub taken-fit : (g : List ℕ) → Memᴰ g (taken log) → (d : Data) → reading p.means p.carries w g ≡ Ok d
          → (s : ℕ → List ℕ) → Fitting 65536 128 p.means (accepted p.carries w (arrivals log)) s → Fits 65536 128 p.means s (said d)
      taken-fit = (kept log σ run).implied

      -- the admitted packets, followed by packets of the code c, fit all accepted frames
      admitted-fit : (c : ℕ) → c < p.means.q → Fitting 65536 128 p.means (accepted p.carries w (arrivals log)) (filled c (admitted log))
      admitted-fit = filled-fits p.means (admitted log) (packet-codes log σ run) (accepted p.carries w (arrivals log)) (kept log σ run).coding

      -- no more are released: on the next packet two streams that fit differ
      released-most : length (released (arrivals log)) ≤ length (admitted log)
      released-most = ⊎_elim (λ l. absurd (differ l)) (λ l. l) (cases_lt (length (admitted log)) (length (released (arrivals log))))
        where
          differ : length (admitted log) < length (released (arrivals log)) → ⊥
          differ l =
              let t = length (admitted log) in
              let right = (promise log σ run).release.right in
              let at : (c : ℕ) → c < p.means.q → get_or (released (arrivals log)) t [] ≡ replicate 128 c =
              λ c h. right (filled c (admitted log)) (admitted-fit c h) t l ∙ filled-past c (admitted log) t (omega arith) in
              let same : ◌≡◌ {A = List ℕ} (replicate 128 0) (replicate 128 1) = sym (at 0 (omega (arith, laws.means.least))) ∙ at 1 laws.means.least in
              let z : ◌≡◌ {A = ℕ} 0 1 = ap (λ (xs : List ℕ). get_or xs 0 0) same in
              omega arith

      pub in_order : (rest : List (List ℕ)) × (admitted log ≡ released (arrivals log) ++ rest)
      in_order =
          let n = length (released (arrivals log)) in
          let long : length (take n (admitted log)) ≡ n = length-take-le n (admitted log) released-most in
          let first : take n (admitted log) ≡ released (arrivals log) =
          ext_get_or [] (take n (admitted log)) (released (arrivals log)) long
          (λ k l. let low : k < n = omega arith in
          get_or-take n (admitted log) k [] low
          ∙ sym ((promise log σ run).release.right (filled 0 (admitted log)) (admitted-fit 0 (omega (arith, laws.means.least))) k low
          ∙ filled-begins 0 (admitted log) k (omega (arith, released-most)))) in
          (drop n (admitted log), sym (take-append-drop n (admitted log)) ∙ ap (λ (ps : List (List ℕ)). ps ++ drop n (admitted log)) first)

      pub complete : (length (released (arrivals log)) ≡ length (admitted log)) ↔ (fresh_count (arrivals log) ≡ length (admitted log))
      complete = (promise log σ run).counted (length (admitted log)) (packets-most log σ run) rows_end
