-- Rows that end with 1, each at a number of its own, are independent.
use Rattle.std.proofs.Common.{◌≡◌, ℕ, zero, suc, ◌+◌, ◌<◌, ◌≤◌, ◌≢◌, sym, ap, ◌∙◌, arith}
use native.Mathlib.Decide.{dec_lt, dec_le}
use Rattle.algebra.proofs.Scalars.{Scalars, mul_zero, zero_mul}
use Rattle.algebra.proofs.Sums.{total, total-one}

module _ {F : Type 0} (K : Scalars F) (n bound : ℕ) (W : ℕ → ℕ → F) (last : ℕ → ℕ)
    (below : (i : ℕ) → i < n → last i < bound) (own : (i j : ℕ) → i < n → j < n → last i ≡ last j → i ≡ j)
    (ends : (i : ℕ) → i < n → W i (last i) ≡ K.𝟙) (after : (i k : ℕ) → i < n → last i < k → W i k ≡ K.𝟘) where
  infixl 70 ◌⊡◌
  open K use {𝟘, ◌⊡◌, mul_one}

  module _ (c : ℕ → F) (all : (k : ℕ) → total K n (λ i. c i ⊡ W i k) ≡ 𝟘) where
    step : (d : ℕ) (i : ℕ) → i < n → bound ≤ last i + d → c i ≡ 𝟘
    step zero i l h = absurd (let m = below i l in omega arith)
    step (suc d) i l h = go (dec_le bound (last i + d)) (λ j. step d j)
      where
        go : Dec (bound ≤ last i + d) → ((j : ℕ) → j < n → bound ≤ last j + d → c j ≡ 𝟘) → c i ≡ 𝟘
        go (yes m) ih = ih i l m
        go (no m) ih =
            sym (mul_one (c i)) ∙ ap (λ x. c i ⊡ x) (sym (ends i l))
            ∙ sym (total-one K n (λ j. c j ⊡ W j (last i)) i l other) ∙ all (last i)
          where
            other : (j : ℕ) → j < n → j ≢ i → c j ⊡ W j (last i) ≡ 𝟘
            other j u ne = side (dec_lt (last j) (last i))
              where
                side : Dec (last j < last i) → c j ⊡ W j (last i) ≡ 𝟘
                side (yes v) = ap (λ x. c j ⊡ x) (after j (last i) u v) ∙ mul_zero K (c j)
                side (no v) =
                    let differ : last j ≢ last i = λ e. ne (own j i u l e) in
                    ap (λ x. x ⊡ W j (last i)) (ih j u (omega arith)) ∙ zero_mul K (W j (last i))

    pub triangular : (i : ℕ) → i < n → c i ≡ 𝟘
    triangular i l = step bound i l (omega arith)
