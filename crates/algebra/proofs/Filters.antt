-- The numbers in a row that pass a test, in rising order.
use Rattle.std.proofs.Common.{◌≡◌, ℕ, zero, suc, ◌+◌, ◌<◌, ◌≤◌, Bool, true, false, cond, ◌⊎◌, List, [], ◌∷◌, length, get_or, filter, sym, refl, ap, ◌∙◌, inl, inr, arith}
use mathlib.Core.List.Memᴰ
use mathlib.Core.List.{Memᴰ}
use native.Mathlib.Decide.{ℕ_discrete, dec_lt}
use Rattle.std.specs.List.{range_with_len}

-- what stands at an index is in the list
pub member : {A : Type 0} (xs : List A) (d : A) (i : ℕ) → i < length xs → Memᴰ (get_or xs i d) xs
member [] d i l = absurd (omega arith)
member (x ∷ xs) d zero l = Memᴰ.head refl
member (x ∷ xs) d (suc i) l = Memᴰ.tail (member xs d i (omega arith))

module _ (test : ℕ → Bool) where
  pub kept_by_from : (a d k : ℕ) → Memᴰ k (filter test (range_with_len a d)) → (a ≤ k) × (k < a + d) × (test k ≡ true)
  kept_by_from a zero k i = elim i [ ]
  kept_by_from a (suc d) k i = go (test a) refl i (kept_by_from (a + 1) d k)
    where
      go : (b : Bool) → test a ≡ b → Memᴰ k (cond b (a ∷ filter test (range_with_len (a + 1) d)) (filter test (range_with_len (a + 1) d)))
          → (Memᴰ k (filter test (range_with_len (a + 1) d)) → (a + 1 ≤ k) × (k < a + 1 + d) × (test k ≡ true))
          → (a ≤ k) × (k < a + suc d) × (test k ≡ true)
      go true e i ih = pick (Memᴰ.cases_cons i)
        where
          pick : (k ≡ a) ⊎ Memᴰ k (filter test (range_with_len (a + 1) d)) → (a ≤ k) × (k < a + suc d) × (test k ≡ true)
          pick (inl s) = (omega arith, omega arith, ap test s ∙ e)
          pick (inr j) = let h = ih j in ((let u = h.0 in omega arith), (let u = h.1 in omega arith), h.2)
      go false e i ih = let h = ih i in ((let u = h.0 in omega arith), (let u = h.1 in omega arith), h.2)

  pub kept_by_have : (a d k : ℕ) → a ≤ k → k < a + d → test k ≡ true → Memᴰ k (filter test (range_with_len a d))
  kept_by_have a zero k l h e = absurd (omega arith)
  kept_by_have a (suc d) k l h e = go (test a) refl (ℕ_discrete k a) (λ u. kept_by_have (a + 1) d k u (omega arith) e)
    where
      go : (b : Bool) → test a ≡ b → Dec (k ≡ a) → (a + 1 ≤ k → Memᴰ k (filter test (range_with_len (a + 1) d)))
          → Memᴰ k (cond b (a ∷ filter test (range_with_len (a + 1) d)) (filter test (range_with_len (a + 1) d)))
      go true s (yes i) ih = Memᴰ.head i
      go true s (no ne) ih = Memᴰ.tail (ih (omega arith))
      go false s (yes i) ih = absurd (let z : true ≡ false = sym e ∙ ap test i ∙ s in let x : ◌≡◌ {A = ℕ} 0 1 = cc in omega arith)
      go false s (no ne) ih = ih (omega arith)

  pub rising : (a d i j : ℕ) → i < j → j < length (filter test (range_with_len a d)) → get_or (filter test (range_with_len a d)) i 0 < get_or (filter test (range_with_len a d)) j 0
  rising a zero i j l h = absurd (omega arith)
  rising a (suc d) i j l h = go (test a) i j l h (rising (a + 1) d)
    where
      go : (b : Bool) (i j : ℕ) → i < j → j < length (cond b (a ∷ filter test (range_with_len (a + 1) d)) (filter test (range_with_len (a + 1) d)))
          → ((i j : ℕ) → i < j → j < length (filter test (range_with_len (a + 1) d)) → get_or (filter test (range_with_len (a + 1) d)) i 0 < get_or (filter test (range_with_len (a + 1) d)) j 0)
          → get_or (cond b (a ∷ filter test (range_with_len (a + 1) d)) (filter test (range_with_len (a + 1) d))) i 0
          < get_or (cond b (a ∷ filter test (range_with_len (a + 1) d)) (filter test (range_with_len (a + 1) d))) j 0
      go false i j l h ih = ih i j l h
      go true i zero l h ih = absurd (omega arith)
      go true zero (suc j) l h ih =
          let u = (kept_by_from (a + 1) d (get_or (filter test (range_with_len (a + 1) d)) j 0) (member (filter test (range_with_len (a + 1) d)) 0 j (omega arith))).0 in omega arith
      go true (suc i) (suc j) l h ih = ih i j (omega arith) (omega arith)

  pub kept_by_once : (a d i j : ℕ) → i < length (filter test (range_with_len a d)) → j < length (filter test (range_with_len a d))
      → get_or (filter test (range_with_len a d)) i 0 ≡ get_or (filter test (range_with_len a d)) j 0 → i ≡ j
  kept_by_once a d i j hi hj e = go (dec_lt i j) (dec_lt j i)
    where
      go : Dec (i < j) → Dec (j < i) → i ≡ j
      go (yes l) _ = absurd (let u = rising a d i j l hj in omega arith)
      go (no _) (yes l) = absurd (let u = rising a d j i l hi in omega arith)
      go (no u) (no v) = omega arith
