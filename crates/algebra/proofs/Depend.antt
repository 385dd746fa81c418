-- n + 1 rows of n numbers depend on each other.
use Rattle.std.proofs.Common.{◌≡◌, ℕ, zero, suc, pred, ◌<◌, ◌≤◌, ◌≢◌, ◌⊎◌, sym, refl, ap, ◌∙◌, ap₂, inl, inr, arith}
use mathlib.Core.Logic.{ite, if_pos, if_neg}
use native.Mathlib.Decide.{ℕ_discrete, dec_lt}
use Rattle.algebra.proofs.Scalars.{Scalars, mul_zero, zero_mul, neg-mul, mul_left_comm, add_neg-left, add_neg-right, inv-mul}
use Rattle.algebra.proofs.Sums.{total, total_same, total-none, total-add, total-mul}

-- the numbers but i, in order
skip : ℕ → ℕ → ℕ
skip i l = ite (dec_lt l i) l (suc l)

skip_below : (i l : ℕ) → l < i → skip i l ≡ l
unfolding skip
skip_below i l h = if_pos (dec_lt l i) h l (suc l)

skip_above : (i l : ℕ) → i ≤ l → skip i l ≡ suc l
unfolding skip
skip_above i l h = if_neg (dec_lt l i) (omega arith) l (suc l)

module _ {F : Type 0} (K : Scalars F) where
  infixl 60 ◌⊞◌
  infixl 70 ◌⊡◌
  open K use {𝟘, 𝟙, ◌⊞◌, ◌⊡◌, neg, inv, add_assoc, add_comm, add_zero, add_neg, mul_assoc, mul_comm, mul_one, mul_add, one_not_zero}

  -- a sum, one number's value aside
  total_skip : (n i : ℕ) (f : ℕ → F) → i ≤ n → total K (suc n) f ≡ total K n (λ l. f (skip i l)) ⊞ f i
  unfolding total
  total_skip zero i f h = ap (λ x. 𝟘 ⊞ f x) (let e : 0 ≡ i = omega arith in e)
  total_skip (suc n) i f h = go (ℕ_discrete i (suc n)) (λ l. total_skip n i f l)
    where
      go : Dec (i ≡ suc n) → (i ≤ n → total K (suc n) f ≡ total K n (λ l. f (skip i l)) ⊞ f i)
          → total K (suc (suc n)) f ≡ total K (suc n) (λ l. f (skip i l)) ⊞ f i
      go (yes e) _ =
          ap₂ (λ x y. x ⊞ y) (total_same K (suc n) f (λ l. f (skip i l)) (λ l m. ap f (sym (skip_below i l (omega arith))))) (ap f (sym e))
      go (no ne) ih =
          ap (λ x. x ⊞ f (suc n)) (ih (omega arith))
          ∙ swap (total K n (λ l. f (skip i l))) (f i) (f (suc n))
          ∙ ap (λ x. (total K n (λ l. f (skip i l)) ⊞ f x) ⊞ f i) (sym (skip_above i n (omega arith)))
        where
          swap : (a b c : F) → (a ⊞ b) ⊞ c ≡ (a ⊞ c) ⊞ b
          swap a b c = add_assoc a b c ∙ ap (λ x. a ⊞ x) (add_comm b c) ∙ sym (add_assoc a c b)

  -- weights for all numbers, c for i and w for the others in order
  put : ℕ → (ℕ → F) → F → ℕ → F
  put i w c l = ite (ℕ_discrete l i) c (w (ite (dec_lt l i) l (pred l)))

  put-here : (i : ℕ) (w : ℕ → F) (c : F) → put i w c i ≡ c
  unfolding put
  put-here i w c = if_pos (ℕ_discrete i i) refl c (w (ite (dec_lt i i) i (pred i)))

  put_skip : (i : ℕ) (w : ℕ → F) (c : F) (l : ℕ) → put i w c (skip i l) ≡ w l
  unfolding put
  put_skip i w c l = go (dec_lt l i)
    where
      go : Dec (l < i) → put i w c (skip i l) ≡ w l
      go (yes h) =
          ap (put i w c) (skip_below i l h)
          ∙ if_neg (ℕ_discrete l i) (omega arith) c (w (ite (dec_lt l i) l (pred l)))
          ∙ ap w (if_pos (dec_lt l i) h l (pred l))
      go (no h) =
          ap (put i w c) (skip_above i l (omega arith))
          ∙ if_neg (ℕ_discrete (suc l) i) (omega arith) c (w (ite (dec_lt (suc l) i) (suc l) (pred (suc l))))
          ∙ ap w (if_neg (dec_lt (suc l) i) (omega arith) (suc l) (pred (suc l)))

  put-sum : (n i : ℕ) (w : ℕ → F) (c : F) (v : ℕ → F) → i ≤ n
      → total K (suc n) (λ l. put i w c l ⊡ v l) ≡ total K n (λ l. w l ⊡ v (skip i l)) ⊞ c ⊡ v i
  put-sum n i w c v h =
      total_skip n i (λ l. put i w c l ⊡ v l) h
      ∙ ap₂ (λ x y. x ⊞ y)
      (total_same K n (λ l. put i w c (skip i l) ⊡ v (skip i l)) (λ l. w l ⊡ v (skip i l)) (λ l _. ap (λ x. x ⊡ v (skip i l)) (put_skip i w c l)))
      (ap (λ x. x ⊡ v i) (put-here i w c))

  module _ (zero? : (a : F) → Dec (a ≡ 𝟘)) where
    find : (n : ℕ) (f : ℕ → F) → ((i : ℕ) × (i < n) × (f i ≢ 𝟘)) ⊎ ((i : ℕ) → i < n → f i ≡ 𝟘)
    find zero f = inr (λ i h. absurd (omega arith))
    find (suc n) f = go (zero? (f n)) (find n f)
      where
        go : Dec (f n ≡ 𝟘) → ((i : ℕ) × (i < n) × (f i ≢ 𝟘)) ⊎ ((i : ℕ) → i < n → f i ≡ 𝟘)
            → ((i : ℕ) × (i < suc n) × (f i ≢ 𝟘)) ⊎ ((i : ℕ) → i < suc n → f i ≡ 𝟘)
        go (no ne) _ = inl (n, omega arith, ne)
        go (yes e) (inl (i, l, ne)) = inl (i, omega arith, ne)
        go (yes e) (inr h) = inr (λ i l. last i l (ℕ_discrete i n))
          where
            last : (i : ℕ) → i < suc n → Dec (i ≡ n) → f i ≡ 𝟘
            last i l (yes s) = ap f s ∙ e
            last i l (no s) = h i (omega arith)

    -- weights, one of them not 0, by which the rows up to v n add up to 0 at the numbers below n
    pub record Dependent (n : ℕ) (v : ℕ → ℕ → F) : Type 0 where
      pub w : ℕ → F
      pub at : ℕ
      pub most : at ≤ n
      pub not_zero : w at ≢ 𝟘
      pub none : (k : ℕ) → k < n → total K (suc n) (λ i. w i ⊡ v i k) ≡ 𝟘

    skip_most : (i l n : ℕ) → l ≤ n → skip i l ≤ suc n
    skip_most i l n h = go (dec_lt l i)
      where
        go : Dec (l < i) → skip i l ≤ suc n
        go (yes a) = let e = skip_below i l a in omega arith
        go (no a) = let e = skip_above i l (omega arith) in omega arith

    -- where all rows are 0 at the last number
    flat : (n : ℕ) (v : ℕ → ℕ → F) → ((i : ℕ) → i < suc (suc n) → v i n ≡ 𝟘) → Dependent n (λ l k. v (skip (suc n) l) k) → Dependent (suc n) v
    flat n v z d =
        record {
          w = put (suc n) d.w 𝟘;
          at = skip (suc n) d.at;
          most = skip_most (suc n) d.at n d.most;
          not_zero = λ e. d.not_zero (sym (put_skip (suc n) d.w 𝟘 d.at) ∙ e);
          none = λ k l. whole k ∙ go k l (ℕ_discrete k n);
        }
      where
        whole : (k : ℕ) → total K (suc (suc n)) (λ i. put (suc n) d.w 𝟘 i ⊡ v i k) ≡ total K (suc n) (λ l. d.w l ⊡ v (skip (suc n) l) k)
        whole k =
            put-sum (suc n) (suc n) d.w 𝟘 (λ i. v i k) (omega arith)
            ∙ ap (λ x. total K (suc n) (λ l. d.w l ⊡ v (skip (suc n) l) k) ⊞ x) (zero_mul K (v (suc n) k))
            ∙ add_zero (total K (suc n) (λ l. d.w l ⊡ v (skip (suc n) l) k))

        go : (k : ℕ) → k < suc n → Dec (k ≡ n) → total K (suc n) (λ l. d.w l ⊡ v (skip (suc n) l) k) ≡ 𝟘
        go k l (yes e) =
            total-none K (suc n) (λ l. d.w l ⊡ v (skip (suc n) l) k)
            (λ l h. ap (λ x. d.w l ⊡ x) (ap (v (skip (suc n) l)) e ∙ z (skip (suc n) l) (let y = skip_most (suc n) l n (omega arith) in omega arith)) ∙ mul_zero K (d.w l))
        go k l (no ne) = d.none k (omega arith)

    -- where row i is not 0 at the last number, it clears that number in the others
    cleared : (n i : ℕ) (v : ℕ → ℕ → F) → ℕ → ℕ → F
    cleared n i v l k = v (skip i l) k ⊞ neg ((v (skip i l) n ⊡ inv (v i n)) ⊡ v i k)

    module _ (n i : ℕ) (v : ℕ → ℕ → F) (most : i < suc (suc n)) (ne : v i n ≢ 𝟘) (d : Dependent n (cleared n i v)) where
      share : ℕ → F
      share l = v (skip i l) n ⊡ inv (v i n)

      c : F
      c = neg (total K (suc n) (λ l. d.w l ⊡ share l))

      part : (k l : ℕ) → d.w l ⊡ v (skip i l) k ≡ d.w l ⊡ cleared n i v l k ⊞ v i k ⊡ (d.w l ⊡ share l)
      unfolding cleared share
      part k l =
          ap (λ x. d.w l ⊡ x) (sym (add_neg-left K (v (skip i l) k) (share l ⊡ v i k)))
          ∙ mul_add (d.w l) (cleared n i v l k) (share l ⊡ v i k)
          ∙ ap (λ x. d.w l ⊡ cleared n i v l k ⊞ x) (ap (λ x. d.w l ⊡ x) (mul_comm (share l) (v i k)) ∙ mul_left_comm K (d.w l) (v i k) (share l))

      whole : (k : ℕ) → total K (suc (suc n)) (λ l. put i d.w c l ⊡ v l k) ≡ total K (suc n) (λ l. d.w l ⊡ cleared n i v l k)
      unfolding c
      whole k =
          put-sum (suc n) i d.w c (λ l. v l k) (omega arith)
          ∙ ap (λ x. x ⊞ c ⊡ v i k)
          (total_same K (suc n) (λ l. d.w l ⊡ v (skip i l) k) (λ l. d.w l ⊡ cleared n i v l k ⊞ v i k ⊡ (d.w l ⊡ share l)) (λ l _. part k l)
          ∙ total-add K (suc n) (λ l. d.w l ⊡ cleared n i v l k) (λ l. v i k ⊡ (d.w l ⊡ share l))
          ∙ ap (λ x. total K (suc n) (λ l. d.w l ⊡ cleared n i v l k) ⊞ x) (total-mul K (suc n) (v i k) (λ l. d.w l ⊡ share l) ∙ mul_comm (v i k) shares))
          ∙ ap (λ x. (total K (suc n) (λ l. d.w l ⊡ cleared n i v l k) ⊞ shares ⊡ v i k) ⊞ x) (neg-mul K shares (v i k))
          ∙ add_neg-right K (total K (suc n) (λ l. d.w l ⊡ cleared n i v l k)) (shares ⊡ v i k)
        where
          shares : F
          shares = total K (suc n) (λ l. d.w l ⊡ share l)

      last : (l : ℕ) → cleared n i v l n ≡ 𝟘
      unfolding cleared
      last l =
          ap (λ x. v (skip i l) n ⊞ neg x) (mul_assoc (v (skip i l) n) (inv (v i n)) (v i n) ∙ ap (λ x. v (skip i l) n ⊡ x) (inv-mul K (v i n) ne) ∙ mul_one (v (skip i l) n))
          ∙ add_neg (v (skip i l) n)

      steep : Dependent (suc n) v
      steep =
          record {
            w = put i d.w c;
            at = skip i d.at;
            most = skip_most i d.at n d.most;
            not_zero = λ e. d.not_zero (sym (put_skip i d.w c d.at) ∙ e);
            none = λ k l. whole k ∙ go k l (ℕ_discrete k n);
          }
        where
          go : (k : ℕ) → k < suc n → Dec (k ≡ n) → total K (suc n) (λ l. d.w l ⊡ cleared n i v l k) ≡ 𝟘
          go k l (yes e) = total-none K (suc n) (λ l. d.w l ⊡ cleared n i v l k) (λ l _. ap (λ x. d.w l ⊡ x) (ap (cleared n i v l) e ∙ last l) ∙ mul_zero K (d.w l))
          go k l (no s) = d.none k (omega arith)

    pub depend : (n : ℕ) (v : ℕ → ℕ → F) → Dependent n v
    depend zero v = record { w = λ _. 𝟙; at = 0; most = omega arith; not_zero = one_not_zero; none = λ k l. absurd (omega arith) }
    depend (suc n) v = go (find (suc (suc n)) (λ i. v i n)) (λ u. depend n u)
      where
        go : ((i : ℕ) × (i < suc (suc n)) × (v i n ≢ 𝟘)) ⊎ ((i : ℕ) → i < suc (suc n) → v i n ≡ 𝟘) → ((u : ℕ → ℕ → F) → Dependent n u) → Dependent (suc n) v
        go (inl (i, l, ne)) ih = steep n i v l ne (ih (cleared n i v))
        go (inr z) ih = flat n v z (ih (λ l k. v (skip (suc n) l) k))
