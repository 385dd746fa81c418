-- Where the frames of n sends in a row that code one window of n packets were all taken, every packet up to the window's end
-- is released.
use Rattle.std.proofs.Common.{◌≡◌, ℕ, ◌+◌, ◌-◌, ◌%◌, ◌<◌, ◌≤◌, ◌⊎◌, List, [], ◌∷◌, length, sym, refl, ap, ◌∙◌, subst, ap₂, inl, inr, arith}
use mathlib.Core.List.Memᴰ
use mathlib.Core.List.{Memᴰ}
use Rattle.frame.specs.Proper.{Proper}
use Rattle.algebra.specs.Combinations.{rows, Spanned, Seen}
use Rattle.algebra.specs.Frames.{Frame, row_at}
use Rattle.algebra.specs.Streams.{Fits, Fitting, Agreed}
use Rattle.algebra.specs.Theorems.{Grown}
use Rattle.algebra.proofs.Frames.{row-after}
use Rattle.algebra.proofs.Growing.{spans_grow_lem}
use Rattle.algebra.proofs.Windows.{window_decodes_lem}
use Rattle.source.specs.Source.{run as draws-in-a-row}
use Rattle.source.specs.Turning.{run_long}
use Rattle.receiver.specs.Log.{accepted, released, said}
use Rattle.receiver.proofs.Aligning.{said-proper}
use Rattle.receiver.proofs.Faith.{read-only-proper}
use Rattle.transfer.specs.Log.{Event, arrivals, taken}
use Rattle.transfer.specs.Parts.{Parts, PartsLaws, State}
use Rattle.transfer.specs.Promise.{WindowTaken}
use Rattle.transfer.specs.Run.{Run}
use Rattle.transfer.proofs.Ends.{sound, holds, window-heard}
use Rattle.transfer.proofs.Kept.{promise, trimmed, rows_end, taken-fit}
use Rattle.transfer.proofs.Rows.{Told, Row, row_sent, independent-at}

module _ {S D R : Type 0} (w : ℕ) (pos : 0 < w) (whole : w % 8 ≡ 0) (p : Parts S D R) (laws : PartsLaws w p) (x : S) (a : D) (b : R)
    (forth : p.forward.waiting a ≡ []) (back : p.reverse.waiting b ≡ [])
    (log : List Event) (σ : State S D R) (run : Run w p x a b log σ) (u n : ℕ) where
  module _ (r : Row w p u n x a b (taken log) log) where
    -- frames that settle the window by these draws, and that every stream fits that fits the accepted frames
    record Settling (draws : List (List ℕ)) : Type 0 where
      frames : List Frame
      seen : (k : ℕ) → k < u → Seen p.means (rows frames) k
      short : (f : Frame) → Memᴰ f frames → (k : ℕ) → u + n ≤ k → f.row k ≡ 0
      spanned : (slots : List ℕ) → Memᴰ slots draws → Spanned p.means (rows frames) (row_at u slots)
      fitting : (s : ℕ → List ℕ) → Fitting 65536 128 p.means (accepted p.carries w (arrivals log)) s → Fitting 65536 128 p.means frames s

    -- the frames that were accepted before the row
    settling_none : Settling []
    settling_none = record {
      frames = accepted p.carries w (arrivals r.past);
      seen = λ k l. trimmed w pos whole p laws x a b forth back r.past r.state r.run k (omega (arith, r.from));
      short = λ f i k l. rows_end w pos whole p laws x a b forth back r.past r.state r.run f i k (omega (arith, r.to));
      spanned = λ slots i. absurd (Memᴰ.not-nil i);
      fitting = λ s h. record { stream = h.stream; fits = λ f i. h.fits f (r.kept f i) };
    }

    -- and one more of the row
    module _ (slots : List ℕ) (draws : List (List ℕ)) (t : Told w p u n (taken log) slots) (h : Settling draws) where
      proper : Proper p.means.q w t.says
      proper = read-only-proper p.means p.carries w laws.carries whole t.frame t.says t.read

      grown : Grown p.means (said t.says).row (rows h.frames)
      grown = spans_grow_lem p.means laws.means (said t.says).row (said-proper p.means laws.means w t.says proper).row_codes (rows h.frames)

      settling_more : Settling (slots ∷ draws)
      settling_more = record {
        frames = said t.says ∷ h.frames;
        seen = λ k l. grown.seen k (h.seen k l);
        short = λ f i k l. ends f k l (Memᴰ.cases_cons i);
        spanned = λ z i. spans z (Memᴰ.cases_cons i);
        fitting = λ s g. record { stream = g.stream; fits = λ f i. fits s g f (Memᴰ.cases_cons i) };
      }
        where
          ends : (f : Frame) (k : ℕ) → u + n ≤ k → (f ≡ said t.says) ⊎ Memᴰ f h.frames → f.row k ≡ 0
          ends f k l (inl e) =
              ap (λ (z : Frame). z.row k) e ∙ row-after t.says.base t.says.slots t.says.width proper.none_past k (omega (arith, t.base, t.wide))
          ends f k l (inr i) = h.short f i k l

          spans : (z : List ℕ) → (z ≡ slots) ⊎ Memᴰ z draws → Spanned p.means (rows (said t.says ∷ h.frames)) (row_at u z)
          spans z (inl e) = subst (Spanned p.means (rows (said t.says ∷ h.frames))) (ap₂ row_at t.base (t.row ∙ sym e)) grown.itself
          spans z (inr i) = grown.spanned (row_at u z) (h.spanned z i)

          fits : (s : ℕ → List ℕ) → Fitting 65536 128 p.means (accepted p.carries w (arrivals log)) s
              → (f : Frame) → (f ≡ said t.says) ⊎ Memᴰ f h.frames → Fits 65536 128 p.means s f
          fits s g f (inl e) = subst (Fits 65536 128 p.means s) (sym e) (taken-fit w pos whole p laws x a b forth back log σ run t.frame t.among t.says t.read s g)
          fits s g f (inr i) = (h.fitting s g).fits f i

    settling : (draws : List (List ℕ)) → ((slots : List ℕ) → Memᴰ slots draws → Told w p u n (taken log) slots) → Settling draws
    settling [] told = settling_none
    settling (slots ∷ draws) told = settling_more slots draws (told slots (Memᴰ.head refl)) (settling draws (λ z i. told z (Memᴰ.tail i)))

    module _ (some : 1 ≤ n) where
      fit : (u + n ≤ 65536) × (n ≤ w)
      fit =
          let s = sound w p x a b r.past r.state r.run in
          let many = (holds w p x a b r.past r.state r.run).many in
          let from = (window-heard w p x a b r.past r.state r.run).1 in
          (omega (arith, r.to), omega (arith, r.from, r.to))

      agreed : (k : ℕ) → k < u + n → Agreed 65536 128 p.means (accepted p.carries w (arrivals log)) k
      agreed k l s t hs ht =
          let draws = draws-in-a-row p.draws r.state.source p.means.q n n in
          let h = settling draws r.told in
          window_decodes_lem 65536 128 p.means laws.means h.frames u n fit.0 h.seen h.short
          draws (run_long p.draws r.state.source p.means.q n n)
          (independent-at p.means draws (laws.draws.independent p.means laws.means r.state.source n some fit.1))
          h.spanned k l s t (h.fitting s hs) (h.fitting t ht)

      row-released : u + n ≤ length (released (arrivals log))
      row-released =
          let last : u + n - 1 < length (released (arrivals log)) =
          ((promise w pos whole p laws x a b log σ run).release.exactly (u + n - 1) (omega (arith, fit.0))).1 (λ j l. agreed j (omega arith)) in
          omega arith

  pub progress : WindowTaken log u n → u + n ≤ length (released (arrivals log))
  progress t =
      row-released
      (row_sent w whole p laws x a b u n (taken log) t.newer t.row t.older log σ run t.in_a_row t.one_window t.each_taken
      t.some t.many)
      t.some
