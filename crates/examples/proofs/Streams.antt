-- Streams that fit one frame, whose row is (1) or (1 1).
use Rattle.std.proofs.Common.{◌≡◌, ℕ, zero, suc, ◌+◌, ◌<◌, ◌≤◌, ◌⊎◌, List, [], ◌∷◌, length, get_or, replicate, sym, refl, ap, ◌∙◌, subst, ap₂, inl, inr, arith, ext_get_or}
use mathlib.Core.List.Memᴰ
use mathlib.Core.List.{Memᴰ}
use lib.ListN.{length-replicate, get_or-replicate, get_or-eq_default}
use Rattle.field.specs.Field.{Means, Laws, plus, times}
use Rattle.field.proofs.Zeros.{zero_times}
use Rattle.algebra.specs.Frames.{Codes, Frame, row_at, frame_at}
use Rattle.algebra.specs.Streams.{sum, Fits, Fitting}
use Rattle.algebra.specs.Promises.{ExactRelease}
use Rattle.algebra.proofs.Frames.{row-slot_zero}
use Rattle.sender.proofs.Payloads.{sum-window}

module _ (m : Means) (laws : Laws m) where
  -- 1 times a code is the code, and so is 0 plus it
  one-times : (a : ℕ) → a < m.q → times m 1 a ≡ a
  one-times a h = laws.times_comm 1 a ∙ laws.times_one a h

  zero_plus : (a : ℕ) → a < m.q → plus m 0 a ≡ a
  zero_plus a h = laws.plus_comm 0 a ∙ laws.plus_zero a h

  -- past its slots a row adds nothing
  none_past : (slots : List ℕ) (g : ℕ → ℕ) (k : ℕ) → length slots ≤ k → times m (row_at 0 slots k) (g k) ≡ 0
  none_past slots g k l =
      ap (λ x. times m x (g k)) (row-slot_zero slots k ∙ get_or-eq_default slots 0 {n = k} l) ∙ zero_times m laws (g k)

  -- the sum that a row makes is that over its slots
  over-slots : (n : ℕ) (slots : List ℕ) (g : ℕ → ℕ) → length slots ≤ n
      → sum m n (λ k. times m (row_at 0 slots k) (g k)) ≡ sum m (length slots) (λ k. times m (row_at 0 slots (0 + k)) (g (0 + k)))
  over-slots n slots g l = sum-window m laws n 0 (length slots) (λ k. times m (row_at 0 slots k) (g k)) (omega arith) none
    where
      none : (k : ℕ) → (k < 0) ⊎ (0 + length slots ≤ k) → times m (row_at 0 slots k) (g k) ≡ 0
      none k (inl h) = absurd (omega arith)
      none k (inr h) = none_past slots g k (omega arith)

  -- the row (1) gives the symbol of packet 0
  pub single : (n : ℕ) (g : ℕ → ℕ) → 1 ≤ n → g 0 < m.q → sum m n (λ k. times m (row_at 0 (1 ∷ []) k) (g k)) ≡ g 0
  unfolding sum row_at
  single n g l c = over-slots n (1 ∷ []) g l ∙ zero_plus _ (laws.times_code 1 (g 0)) ∙ one-times (g 0) c

  -- the row (1 1) gives the sum of the symbols of packets 0 and 1
  double : (n : ℕ) (g : ℕ → ℕ) → 2 ≤ n → g 0 < m.q → g 1 < m.q
      → sum m n (λ k. times m (row_at 0 (1 ∷ 1 ∷ []) k) (g k)) ≡ plus m (g 0) (g 1)
  unfolding sum row_at
  double n g l c d =
      over-slots n (1 ∷ 1 ∷ []) g l ∙ ap₂ (plus m) (zero_plus _ (laws.times_code 1 (g 0)) ∙ one-times (g 0) c) (one-times (g 1) d)

  module _ (n size : ℕ) where
    abbrev alone : List ℕ → List Frame
    alone p = frame_at 0 (1 ∷ []) p ∷ []

    -- the frame of row (1) says what packet 0 is
    first-is : 1 ≤ n → (p : List ℕ) → Codes m.q size p → (s : ℕ → List ℕ) → Fitting n size m (alone p) s → s 0 ≡ p
    first-is l p c s f =
        let c0 = f.stream 0 l in
        ext_get_or 0 (s 0) p (c0.long ∙ sym c.long)
        (λ i h. let b : i < size = omega (arith, c0.long) in
        sym (single n (λ k. get_or (s k) i 0) l (c0.codes i b)) ∙ f.fits (frame_at 0 (1 ∷ []) p) (Memᴰ.head refl) i b)

    pub withheld : 1 ≤ n → (p : List ℕ) → Codes m.q size p → ExactRelease n size m (alone p) [] → ⊥
    withheld l p c x =
        let z : 0 < 0 =
        (x.exactly 0 l).1
        (λ j h s t fs ft.
        let e : 0 ≡ j = omega arith in
        subst (λ k. s k ≡ t k) e (first-is l p c s fs ∙ sym (first-is l p c t ft))) in
        omega arith

    pub falsified : 1 ≤ n → (p y : List ℕ) (rest : List (List ℕ)) → Codes m.q size p → (y ≡ p → ⊥)
        → ExactRelease n size m (alone p) (y ∷ rest) → ⊥
    falsified l p y rest c ne x = let s = x.consistent in ne (x.right s.0 s.1 0 (omega arith) ∙ first-is l p c s.0 s.1)

    pub contradictory : 1 ≤ n → (p y : List ℕ) (released : List (List ℕ)) → Codes m.q size p → Codes m.q size y → (y ≡ p → ⊥)
        → ExactRelease n size m (frame_at 0 (1 ∷ []) y ∷ frame_at 0 (1 ∷ []) p ∷ []) released → ⊥
    contradictory l p y released c d ne x =
        ne (sym (first-is l y d s (record { stream = f.stream; fits = λ g i. f.fits g (one_of (Memᴰ.cases_cons i)) }))
        ∙ first-is l p c s (record { stream = f.stream; fits = λ g i. f.fits g (Memᴰ.tail i) }))
      where
        s : ℕ → List ℕ
        s = x.consistent.0

        f : Fitting n size m (frame_at 0 (1 ∷ []) y ∷ frame_at 0 (1 ∷ []) p ∷ []) s
        f = x.consistent.1

        one_of : {g : Frame} → (g ≡ frame_at 0 (1 ∷ []) y) ⊎ Memᴰ g [] → Memᴰ g (frame_at 0 (1 ∷ []) y ∷ frame_at 0 (1 ∷ []) p ∷ [])
        one_of (inl e) = Memᴰ.head e
        one_of (inr i) = absurd (Memᴰ.not-nil i)

    -- two streams: packet 0 of the numbers a, packet 1 of the numbers b, and the others 0
    abbrev two : ℕ → ℕ → ℕ → List ℕ
    two a b zero = replicate size a
    two a b (suc zero) = replicate size b
    two a b (suc (suc k)) = replicate size 0

    abbrev both : List Frame
    both = frame_at 0 (1 ∷ 1 ∷ []) (replicate size 1) ∷ []

    equal-codes : (a : ℕ) → a < m.q → Codes m.q size (replicate size a)
    equal-codes a h = record {
      long = length-replicate size a;
      codes = λ i l. subst (λ x. x < m.q) (sym (get_or-replicate size i a 0 l)) h;
    }

    two-stream : (a b : ℕ) → a < m.q → b < m.q → (k : ℕ) → Codes m.q size (two a b k)
    two-stream a b ha hb zero = equal-codes a ha
    two-stream a b ha hb (suc zero) = equal-codes b hb
    two-stream a b ha hb (suc (suc k)) = equal-codes 0 (omega arith)

    two_fits : 2 ≤ n → (a b : ℕ) → a < m.q → b < m.q → plus m a b ≡ 1 → Fitting n size m both (two a b)
    two_fits l a b ha hb e = record { stream = λ k _. two-stream a b ha hb k; fits = λ f i. at f (Memᴰ.cases_cons i) }
      where
        sums : Fits n size m (two a b) (frame_at 0 (1 ∷ 1 ∷ []) (replicate size 1))
        sums p h =
            double n (λ k. get_or (two a b k) p 0) l ((two-stream a b ha hb 0).codes p h) ((two-stream a b ha hb 1).codes p h)
            ∙ ap₂ (plus m) (get_or-replicate size p a 0 h) (get_or-replicate size p b 0 h) ∙ e ∙ sym (get_or-replicate size p 1 0 h)

        at : (f : Frame) → (f ≡ frame_at 0 (1 ∷ 1 ∷ []) (replicate size 1)) ⊎ Memᴰ f [] → Fits n size m (two a b) f
        at f (inl same) = subst (Fits n size m (two a b)) (sym same) sums
        at f (inr i) = absurd (Memᴰ.not-nil i)

    pub guessed : 2 ≤ n → 1 ≤ size → (y : List ℕ) (rest : List (List ℕ)) → ExactRelease n size m both (y ∷ rest) → ⊥
    guessed l some y rest x =
        let one : 1 < m.q = omega (arith, laws.least) in
        let nil : 0 < m.q = omega arith in
        let same : ◌≡◌ {A = List ℕ} (replicate size 1) (replicate size 0) =
        sym (x.right (two 1 0) (two_fits l 1 0 one nil (laws.plus_zero 1 one)) 0 (omega arith))
        ∙ x.right (two 0 1) (two_fits l 0 1 nil one (zero_plus 1 one)) 0 (omega arith) in
        let z : ◌≡◌ {A = ℕ} 1 0 = sym (get_or-replicate size 0 1 0 some) ∙ ap (λ xs. get_or xs 0 0) same ∙ get_or-replicate size 0 0 0 some in
        omega arith
