-- When two solutions of the same equations agree, over any field.
use Rattle.std.proofs.Common.{◌≡◌, ℕ, zero, suc, ◌+◌, ◌-◌, ◌<◌, ◌≤◌, ◌≢◌, ◌⊎◌, sym, refl, ap, ◌∙◌, inl, inr, arith}
use mathlib.Core.Logic.{ite, if_pos, if_neg}
use native.Mathlib.Decide.{ℕ_discrete, dec_lt}
use Rattle.algebra.proofs.Scalars.{Scalars, zero_add, one-mul, mul_zero, zero_mul, inv-mul}
use Rattle.algebra.proofs.Sums.{total, total_same, total-none, total-mul, total_differ, total_swap}
use Rattle.algebra.proofs.Depend.{Dependent, depend}

module _ {F : Type 0} (K : Scalars F) where
  infixl 60 ◌⊞◌
  infixl 70 ◌⊡◌
  open K use {𝟘, 𝟙, ◌⊞◌, ◌⊡◌, inv, add_zero, mul_assoc, mul_comm, mul_one}

  mul_cancel : (a x y : F) → a ≢ 𝟘 → a ⊡ x ≡ a ⊡ y → x ≡ y
  mul_cancel a x y ne e = sym (back x) ∙ ap (λ z. inv a ⊡ z) e ∙ back y
    where
      back : (z : F) → inv a ⊡ (a ⊡ z) ≡ z
      back z = sym (mul_assoc (inv a) a z) ∙ ap (λ b. b ⊡ z) (inv-mul K a ne) ∙ one-mul K z

  -- the two agree below t, if they do from v on, and each k below v has a row that is 0 below k, 1 at k and 0 from t on, with one sum for both
  module _
      (N v t : ℕ) (v≤t : v ≤ t) (t≤N : t ≤ N) (x y : ℕ → F) (g : (k : ℕ) → k < v → ℕ → F)
      (below : (k : ℕ) (l : k < v) (j : ℕ) → j < k → g k l j ≡ 𝟘)
      (here : (k : ℕ) (l : k < v) → g k l k ≡ 𝟙)
      (beyond : (k : ℕ) (l : k < v) (j : ℕ) → t ≤ j → g k l j ≡ 𝟘)
      (same : (k : ℕ) (l : k < v) → total K N (λ j. g k l j ⊡ x j) ≡ total K N (λ j. g k l j ⊡ y j))
      (later : (k : ℕ) → v ≤ k → k < t → x k ≡ y k)
    where
      one : (k : ℕ) → k < v → ((j : ℕ) → k < j → j < t → x j ≡ y j) → x k ≡ y k
      one k l h =
          sym (unit x) ∙ total_differ K N (λ j. g k l j ⊡ x j) (λ j. g k l j ⊡ y j) k (omega arith) (λ j _ ne. other j ne (dec_lt j k) (dec_lt j t)) (same k l) ∙ unit y
        where
          unit : (z : ℕ → F) → g k l k ⊡ z k ≡ z k
          unit z = ap (λ b. b ⊡ z k) (here k l) ∙ one-mul K (z k)

          nil : (j : ℕ) → g k l j ≡ 𝟘 → g k l j ⊡ x j ≡ g k l j ⊡ y j
          nil j e = ap (λ b. b ⊡ x j) e ∙ zero_mul K (x j) ∙ sym (ap (λ b. b ⊡ y j) e ∙ zero_mul K (y j))

          other : (j : ℕ) → j ≢ k → Dec (j < k) → Dec (j < t) → g k l j ⊡ x j ≡ g k l j ⊡ y j
          other j ne (yes a) _ = nil j (below k l j a)
          other j ne (no a) (yes b) = ap (λ z. g k l j ⊡ z) (h j (omega arith) b)
          other j ne (no a) (no b) = nil j (beyond k l j (omega arith))

      down : (n k : ℕ) → k < t → t ≤ k + n → x k ≡ y k
      down zero k l h = absurd (omega arith)
      down (suc n) k l h = go (dec_lt k v) (λ j a b. down n j b (omega arith))
        where
          go : Dec (k < v) → ((j : ℕ) → k < j → j < t → x j ≡ y j) → x k ≡ y k
          go (yes a) ih = one k a ih
          go (no a) ih = later k (omega arith) l

      pub triangle : (k : ℕ) → k < t → x k ≡ y k
      triangle k l = down t k l (omega arith)

  -- n independent rows that are 0 outside the n numbers from u on, with one sum for both: the two agree there
  module _
      (zero? : (a : F) → Dec (a ≡ 𝟘)) (N u n : ℕ) (fits : u + n ≤ N) (r : ℕ → ℕ → F)
      (outside : (i : ℕ) → i < n → (k : ℕ) → (k < u) ⊎ (u + n ≤ k) → r i k ≡ 𝟘)
      (independent : (w : ℕ → F) → ((j : ℕ) → j < n → total K n (λ i. w i ⊡ r i (u + j)) ≡ 𝟘) → (i : ℕ) → i < n → w i ≡ 𝟘)
      (x y : ℕ → F) (same : (i : ℕ) → i < n → total K N (λ k. r i k ⊡ x k) ≡ total K N (λ k. r i k ⊡ y k))
    where
      -- the rows and, after them, the row of number j alone
      rows : ℕ → ℕ → ℕ → F
      rows j i k = ite (ℕ_discrete i n) (ite (ℕ_discrete k j) 𝟙 𝟘) (r i (u + k))

      rows-old : (j i k : ℕ) → i < n → rows j i k ≡ r i (u + k)
      unfolding rows
      rows-old j i k l = if_neg (ℕ_discrete i n) (omega arith) (ite (ℕ_discrete k j) 𝟙 𝟘) (r i (u + k))

      rows-here : (j : ℕ) → rows j n j ≡ 𝟙
      unfolding rows
      rows-here j = if_pos (ℕ_discrete n n) refl (ite (ℕ_discrete j j) 𝟙 𝟘) (r n (u + j)) ∙ if_pos (ℕ_discrete j j) refl 𝟙 𝟘

      rows_other : (j k : ℕ) → k ≢ j → rows j n k ≡ 𝟘
      unfolding rows
      rows_other j k ne = if_pos (ℕ_discrete n n) refl (ite (ℕ_discrete k j) 𝟙 𝟘) (r n (u + k)) ∙ if_neg (ℕ_discrete k j) ne 𝟙 𝟘

      module _ (j : ℕ) (j<n : j < n) (d : Dependent K zero? n (rows j)) where
        -- the combination of the rows
        G : ℕ → F
        G k = total K n (λ i. d.w i ⊡ r i k)

        split : (k : ℕ) → k < n → G (u + k) ⊞ d.w n ⊡ rows j n k ≡ 𝟘
        unfolding G total
        split k l =
            ap (λ z. z ⊞ d.w n ⊡ rows j n k) (total_same K n (λ i. d.w i ⊡ r i (u + k)) (λ i. d.w i ⊡ rows j i k) (λ i a. ap (λ z. d.w i ⊡ z) (sym (rows-old j i k a))))
            ∙ d.none k l

        -- the weight of the last row is not 0
        last : d.w n ≢ 𝟘
        unfolding G
        last e = d.not_zero (go (ℕ_discrete d.at n))
          where
            zero_w : (i : ℕ) → i < n → d.w i ≡ 𝟘
            zero_w = independent d.w (λ k l. sym (add_zero (G (u + k))) ∙ ap (λ z. G (u + k) ⊞ z) (sym (ap (λ z. z ⊡ rows j n k) e ∙ zero_mul K (rows j n k))) ∙ split k l)

            go : Dec (d.at ≡ n) → d.w d.at ≡ 𝟘
            go (yes a) = ap d.w a ∙ e
            go (no a) = zero_w d.at (let h = d.most in omega arith)

        here : G (u + j) ≢ 𝟘
        here e = last (sym (mul_one (d.w n)) ∙ ap (λ z. d.w n ⊡ z) (sym (rows-here j)) ∙ sym (zero_add K (d.w n ⊡ rows j n j)) ∙ ap (λ z. z ⊞ d.w n ⊡ rows j n j) (sym e) ∙ split j j<n)

        elsewhere : (k : ℕ) → k ≢ u + j → G k ≡ 𝟘
        unfolding G
        elsewhere k ne = go (dec_lt k u) (dec_lt k (u + n))
          where
            none : (k < u) ⊎ (u + n ≤ k) → G k ≡ 𝟘
            none o = total-none K n (λ i. d.w i ⊡ r i k) (λ i l. ap (λ z. d.w i ⊡ z) (outside i l k o) ∙ mul_zero K (d.w i))

            go : Dec (k < u) → Dec (k < u + n) → G k ≡ 𝟘
            go (yes a) _ = none (inl a)
            go (no a) (no b) = none (inr (omega arith))
            go (no a) (yes b) =
                let e : k ≡ u + (k - u) = omega arith in
                ap G e
                ∙ sym (add_zero (G (u + (k - u))))
                ∙ ap (λ z. G (u + (k - u)) ⊞ z) (sym (ap (λ z. d.w n ⊡ z) (rows_other j (k - u) (omega arith)) ∙ mul_zero K (d.w n)))
                ∙ split (k - u) (omega arith)

        -- the combination's sum is the combination of the sums
        through : (z : ℕ → F) → total K N (λ k. G k ⊡ z k) ≡ total K n (λ i. d.w i ⊡ total K N (λ k. r i k ⊡ z k))
        unfolding G
        through z =
            total_same K N (λ k. G k ⊡ z k) (λ k. total K n (λ i. d.w i ⊡ (r i k ⊡ z k))) (λ k _. inside k)
            ∙ sym (total_swap K n N (λ i k. d.w i ⊡ (r i k ⊡ z k)))
            ∙ total_same K n (λ i. total K N (λ k. d.w i ⊡ (r i k ⊡ z k))) (λ i. d.w i ⊡ total K N (λ k. r i k ⊡ z k)) (λ i _. total-mul K N (d.w i) (λ k. r i k ⊡ z k))
          where
            inside : (k : ℕ) → G k ⊡ z k ≡ total K n (λ i. d.w i ⊡ (r i k ⊡ z k))
            inside k =
                mul_comm (G k) (z k) ∙ sym (total-mul K n (z k) (λ i. d.w i ⊡ r i k))
                ∙ total_same K n (λ i. z k ⊡ (d.w i ⊡ r i k)) (λ i. d.w i ⊡ (r i k ⊡ z k)) (λ i _. mul_comm (z k) (d.w i ⊡ r i k) ∙ mul_assoc (d.w i) (r i k) (z k))

        both : total K N (λ k. G k ⊡ x k) ≡ total K N (λ k. G k ⊡ y k)
        both =
            through x
            ∙ total_same K n (λ i. d.w i ⊡ total K N (λ k. r i k ⊡ x k)) (λ i. d.w i ⊡ total K N (λ k. r i k ⊡ y k)) (λ i l. ap (λ z. d.w i ⊡ z) (same i l))
            ∙ sym (through y)

        agree : x (u + j) ≡ y (u + j)
        agree =
            mul_cancel (G (u + j)) (x (u + j)) (y (u + j)) here
            (total_differ K N (λ k. G k ⊡ x k) (λ k. G k ⊡ y k) (u + j) (omega arith) (λ k _ ne. nil k (elsewhere k ne)) both)
          where
            nil : (k : ℕ) → G k ≡ 𝟘 → G k ⊡ x k ≡ G k ⊡ y k
            nil k e = ap (λ b. b ⊡ x k) e ∙ zero_mul K (x k) ∙ sym (ap (λ b. b ⊡ y k) e ∙ zero_mul K (y k))

      pub spread : (j : ℕ) → j < n → x (u + j) ≡ y (u + j)
      spread j l = agree j l (depend K zero? n (rows j))
