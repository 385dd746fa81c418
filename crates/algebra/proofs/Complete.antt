-- Where all accepted equations are 0 from t on: the packets below t are all released exactly when the system has t equations.
use Rattle.std.proofs.Common.{◌≡◌, ℕ, ◌<◌, ◌≤◌, ◌≢◌, ◌⊎◌, ◌↔◌, Some, None, sym, ◌∙◌, inl, inr, arith}
use native.Mathlib.Decide.{dec_lt}
use Rattle.algebra.proofs.Scalars.{Scalars}
use Rattle.algebra.proofs.Equations.{Equation, Bounded, span-bounded}
use Rattle.algebra.proofs.Systems.{System, look}
use Rattle.algebra.proofs.Count.{count, count_full, full_count, count-upto}
use Rattle.algebra.proofs.Holds.{Holds}
use Rattle.algebra.proofs.Release.{alone, system, system_below, system_above}

module _ {F P : Type 0} (K : Scalars F) (n t : ℕ) (low : t ≤ n) (r : ℕ) (rel : ℕ → P → F) (table : System F P) (Acc : Equation F P → Type 0)
    (holds : Holds K n (system K r rel table) Acc) (short : (f : Equation F P) → Acc f → Bounded K t f)
    (settled : r < n → (f : Equation F P) → table r ≡ Some f → ((j : ℕ) → j < n → j ≢ r → f.row j ≡ K.𝟘) → ⊥) where
  open K use {𝟘, one_not_zero}

  -- so are the system's equations, and they begin below t
  short_in : (p : ℕ) (f : Equation F P) → system K r rel table p ≡ Some f → Bounded K t f
  short_in p f e = span-bounded K t short (holds.from f (p, e))

  below : (p : ℕ) (f : Equation F P) → system K r rel table p ≡ Some f → p < t
  below p f e = go (dec_lt p t)
    where
      go : Dec (p < t) → p < t
      go (yes l) = l
      go (no l) = absurd (one_not_zero (sym (holds.reduced.leads p f e) ∙ short_in p f e p (omega arith)))

  none_from : (k : ℕ) → t ≤ k → system K r rel table k ≡ None
  none_from k l = go (look (system K r rel table k))
    where
      go : (system K r rel table k ≡ None) ⊎ ((f : Equation F P) × (system K r rel table k ≡ Some f)) → system K r rel table k ≡ None
      go (inl e) = e
      go (inr f) = absurd (let h = below k f.0 f.1 in omega arith)

  within : r ≤ t
  within = go (dec_lt t r)
    where
      go : Dec (t < r) → r ≤ t
      go (no l) = omega arith
      go (yes l) = absurd (let h = below t (alone K t (rel t)) (system_below K r rel table t l) in omega arith)

  -- an equation begins at each number below t: all are released
  full_released : ((k : ℕ) → k < t → (f : Equation F P) × (system K r rel table k ≡ Some f)) → r ≡ t
  full_released full = go (dec_lt r t)
    where
      go : Dec (r < t) → r ≡ t
      go (no l) = let h = within in omega arith
      go (yes l) = absurd (settled (omega arith) f.0 (sym (system_above K r rel table r (omega arith)) ∙ f.1) zeros)
        where
          f : (f : Equation F P) × (system K r rel table r ≡ Some f)
          f = full r l

          zeros : (j : ℕ) → j < n → j ≢ r → f.0.row j ≡ 𝟘
          zeros j _ ne = pick (dec_lt j t)
            where
              pick : Dec (j < t) → f.0.row j ≡ 𝟘
              pick (yes u) = let g = full j u in holds.reduced.clear j r g.0 f.0 g.1 f.1 ne
              pick (no u) = short_in r f.0 f.1 j (omega arith)

  pub all_released : (r ≡ t) ↔ (count (system K r rel table) n ≡ t)
  all_released = (
    λ e. count-upto (system K r rel table) t n low none_from ∙ full_count (system K r rel table) t (λ k l. (alone K k (rel k), system_below K r rel table k (omega arith))),
    λ e. full_released (count_full (system K r rel table) t (sym (count-upto (system K r rel table) t n low none_from) ∙ e)),
  )
