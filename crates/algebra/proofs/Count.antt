-- How many equations a system has.
use Rattle.std.proofs.Common.{◌≡◌, ℕ, zero, suc, ◌+◌, ◌<◌, ◌≤◌, ◌≢◌, ◌⊎◌, Some, None, Option, sym, refl, ap, ◌∙◌, ap₂, inl, inr, arith}
use native.Mathlib.Decide.{ℕ_discrete}
use Rattle.algebra.proofs.Systems.{look}

one_if : {A : Type 0} → Option A → ℕ
one_if None = 0
one_if (Some _) = 1

-- at how many numbers below n one begins
unfoldable pub count : {A : Type 0} → (ℕ → Option A) → ℕ → ℕ
unfolding one_if
count b zero = 0
count b (suc n) = count b n + one_if (b n)

one_if_le : {A : Type 0} (o : Option A) → one_if o ≤ 1
unfolding one_if
one_if_le None = omega arith
one_if_le (Some _) = omega arith

module _ {A : Type 0} where
  one_none : (o : Option A) → o ≡ None → one_if o ≡ 0
  unfolding one_if
  one_none o e = ap one_if e

  one-some : (o : Option A) (a : A) → o ≡ Some a → one_if o ≡ 1
  unfolding one_if
  one-some o a e = ap one_if e

  count-le : (b : ℕ → Option A) (n : ℕ) → count b n ≤ n
  unfolding count
  count-le b zero = omega arith
  count-le b (suc n) = let h = count-le b n in let l = one_if_le (b n) in omega arith

  pub count_none : (b : ℕ → Option A) (n : ℕ) → ((k : ℕ) → k < n → b k ≡ None) → count b n ≡ 0
  unfolding count
  count_none b zero h = refl
  count_none b (suc n) h = let i = count_none b n (λ k l. h k (omega arith)) in let o = one_none (b n) (h n (omega arith)) in omega arith

  -- as many as numbers: one begins at each
  pub count_full : (b : ℕ → Option A) (n : ℕ) → count b n ≡ n → (k : ℕ) → k < n → (a : A) × (b k ≡ Some a)
  unfolding count
  count_full b zero e k l = absurd (omega arith)
  count_full b (suc n) e k l =
      let h = count-le b n in
      let o = one_if_le (b n) in
      go (ℕ_discrete k n) (count_full b n (omega arith) k) (look (b n))
    where
      go : Dec (k ≡ n) → (k < n → (a : A) × (b k ≡ Some a)) → (b n ≡ None) ⊎ ((a : A) × (b n ≡ Some a)) → (a : A) × (b k ≡ Some a)
      go (no ne) ih _ = ih (omega arith)
      go (yes i) ih (inr a) = (a.0, ap b i ∙ a.1)
      go (yes i) ih (inl z) = absurd (let h = count-le b n in let o = one_none (b n) z in omega arith)

  pub full_count : (b : ℕ → Option A) (n : ℕ) → ((k : ℕ) → k < n → (a : A) × (b k ≡ Some a)) → count b n ≡ n
  unfolding count
  full_count b zero h = refl
  full_count b (suc n) h =
      let i = full_count b n (λ k l. h k (omega arith)) in
      let o = one-some (b n) (h n (omega arith)).0 (h n (omega arith)).1 in
      omega arith

  -- both have one at the same numbers
  count_same : (b d : ℕ → Option A) (n : ℕ) → ((k : ℕ) → k < n → one_if (b k) ≡ one_if (d k)) → count b n ≡ count d n
  unfolding count
  count_same b d zero h = refl
  count_same b d (suc n) h = ap₂ (λ x y. x + y) (count_same b d n (λ k l. h k (omega arith))) (h n (omega arith))

  -- one more
  pub count-more : (b d : ℕ → Option A) (n m : ℕ) → m < n → b m ≡ None → ((a : A) × (d m ≡ Some a))
      → ((k : ℕ) → k ≢ m → b k ≡ None → d k ≡ None) → ((k : ℕ) (a : A) → k ≢ m → b k ≡ Some a → (a' : A) × (d k ≡ Some a'))
      → count d n ≡ suc (count b n)
  unfolding count
  count-more b d zero m l e new no_more same = absurd (omega arith)
  count-more b d (suc n) m l e new no_more same = go (ℕ_discrete n m) (λ l'. count-more b d n m l' e new no_more same)
    where
      at : (k : ℕ) → k ≢ m → one_if (d k) ≡ one_if (b k)
      at k ne = pick (look (b k))
        where
          pick : (b k ≡ None) ⊎ ((a : A) × (b k ≡ Some a)) → one_if (d k) ≡ one_if (b k)
          pick (inl z) = one_none (d k) (no_more k ne z) ∙ sym (one_none (b k) z)
          pick (inr a) = let w = same k a.0 ne a.1 in one-some (d k) w.0 w.1 ∙ sym (one-some (b k) a.0 a.1)

      go : Dec (n ≡ m) → (m < n → count d n ≡ suc (count b n)) → count d n + one_if (d n) ≡ suc (count b n + one_if (b n))
      go (yes i) _ =
          let o = one_none (b n) (ap b i ∙ e) in
          let p = one-some (d n) new.0 (ap d i ∙ new.1) in
          let q = count_same d b n (λ k l. at k (omega arith)) in
          omega arith
      go (no ne) ih =
          let p = at n ne in
          let q = ih (omega arith) in
          omega arith

  -- none begins from t on
  pub count-upto : (b : ℕ → Option A) (t n : ℕ) → t ≤ n → ((k : ℕ) → t ≤ k → b k ≡ None) → count b n ≡ count b t
  unfolding count
  count-upto b t zero l h = let e : 0 ≡ t = omega arith in ap (count b) e
  count-upto b t (suc n) l h = go (ℕ_discrete t (suc n)) (λ m. count-upto b t n m h)
    where
      go : Dec (t ≡ suc n) → (t ≤ n → count b n ≡ count b t) → count b n + one_if (b n) ≡ count b t
      go (yes e) _ = ap (count b) (sym e)
      go (no ne) ih =
          let i = ih (omega arith) in
          let o = one_none (b n) (h n (omega arith)) in
          omega arith
