-- Sums over the numbers below a bound.
use Rattle.std.proofs.Common.{◌≡◌, ℕ, zero, suc, ◌<◌, ◌≢◌, sym, refl, ap, ◌∙◌, ap₂, arith}
use native.Mathlib.Decide.{ℕ_discrete}
use Rattle.algebra.proofs.Scalars.{Scalars, zero_add, add_swap, mul_zero, add_neg-left, add_cancel}

module _ {F : Type 0} (K : Scalars F) where
  infixl 60 ◌⊞◌
  infixl 70 ◌⊡◌
  open K use {𝟘, ◌⊞◌, ◌⊡◌, neg, add_assoc, add_comm, add_zero, add_neg, mul_add}

  -- f 0 + .. + f (n - 1)
  unfoldable pub total : ℕ → (ℕ → F) → F
  total zero f = 𝟘
  total (suc n) f = total n f ⊞ f n

  pub total_same : (n : ℕ) (f g : ℕ → F) → ((k : ℕ) → k < n → f k ≡ g k) → total n f ≡ total n g
  unfolding total
  total_same zero f g h = refl
  total_same (suc n) f g h = ap₂ (λ x y. x ⊞ y) (total_same n f g (λ k l. h k (omega arith))) (h n (omega arith))

  pub total-none : (n : ℕ) (f : ℕ → F) → ((k : ℕ) → k < n → f k ≡ 𝟘) → total n f ≡ 𝟘
  unfolding total
  total-none zero f h = refl
  total-none (suc n) f h = ap₂ (λ x y. x ⊞ y) (total-none n f (λ k l. h k (omega arith))) (h n (omega arith)) ∙ add_zero 𝟘

  pub total-add : (n : ℕ) (f g : ℕ → F) → total n (λ k. f k ⊞ g k) ≡ total n f ⊞ total n g
  unfolding total
  total-add zero f g = sym (add_zero 𝟘)
  total-add (suc n) f g = ap (λ x. x ⊞ (f n ⊞ g n)) (total-add n f g) ∙ add_swap K (total n f) (total n g) (f n) (g n)

  pub total-mul : (n : ℕ) (c : F) (f : ℕ → F) → total n (λ k. c ⊡ f k) ≡ c ⊡ total n f
  unfolding total
  total-mul zero c f = sym (mul_zero K c)
  total-mul (suc n) c f = ap (λ x. x ⊞ c ⊡ f n) (total-mul n c f) ∙ sym (mul_add c (total n f) (f n))

  -- a sum of which one place alone counts
  pub total-one : (n : ℕ) (f : ℕ → F) (a : ℕ) → a < n → ((k : ℕ) → k < n → k ≢ a → f k ≡ 𝟘) → total n f ≡ f a
  unfolding total
  total-one zero f a l h = absurd (omega arith)
  total-one (suc n) f a l h = go (ℕ_discrete n a) (λ m. total-one n f a m (λ k j. h k (omega arith)))
    where
      go : Dec (n ≡ a) → (a < n → total n f ≡ f a) → total n f ⊞ f n ≡ f a
      go (yes e) _ = ap (λ x. x ⊞ f n) (total-none n f (λ k j. h k (omega arith) (omega arith))) ∙ zero_add K (f n) ∙ ap f e
      go (no ne) ih = ap₂ (λ x y. x ⊞ y) (ih (omega arith)) (h n (omega arith) ne) ∙ add_zero (f a)

  -- a sum of which two places count
  pub total-two : (n : ℕ) (f : ℕ → F) (a b : ℕ) → a < n → b < n → a ≢ b → ((k : ℕ) → k < n → k ≢ a → k ≢ b → f k ≡ 𝟘) → total n f ≡ f a ⊞ f b
  unfolding total
  total-two zero f a b l m d h = absurd (omega arith)
  total-two (suc n) f a b l m d h = go (ℕ_discrete n a) (ℕ_discrete n b) (λ u v. total-two n f a b u v d (λ k j. h k (omega arith)))
    where
      go : Dec (n ≡ a) → Dec (n ≡ b) → (a < n → b < n → total n f ≡ f a ⊞ f b) → total n f ⊞ f n ≡ f a ⊞ f b
      go (yes e) (yes e') _ = absurd (omega arith)
      go (yes e) (no ne) _ = ap₂ (λ x y. x ⊞ y) (total-one n f b (omega arith) (λ k j w. h k (omega arith) (omega arith) w)) (ap f e) ∙ add_comm (f b) (f a)
      go (no ne) (yes e) _ = ap₂ (λ x y. x ⊞ y) (total-one n f a (omega arith) (λ k j w. h k (omega arith) w (omega arith))) (ap f e)
      go (no ne) (no ne') ih = ap₂ (λ x y. x ⊞ y) (ih (omega arith) (omega arith)) (h n (omega arith) ne ne') ∙ add_zero (f a ⊞ f b)

  -- equal sums that agree elsewhere agree here too
  pub total_differ : (n : ℕ) (f g : ℕ → F) (a : ℕ) → a < n → ((k : ℕ) → k < n → k ≢ a → f k ≡ g k) → total n f ≡ total n g → f a ≡ g a
  total_differ n f g a l h e = sym (back a) ∙ ap (λ x. x ⊞ g a) gone ∙ zero_add K (g a)
    where
      d : ℕ → F
      d k = f k ⊞ neg (g k)

      back : (k : ℕ) → d k ⊞ g k ≡ f k
      back k = add_neg-left K (f k) (g k)

      one : total n d ≡ d a
      one = total-one n d a l (λ k m ne. ap (λ x. x ⊞ neg (g k)) (h k m ne) ∙ add_neg (g k))

      whole : d a ⊞ total n g ≡ 𝟘 ⊞ total n g
      whole = ap (λ x. x ⊞ total n g) (sym one) ∙ sym (total-add n d g) ∙ total_same n (λ k. d k ⊞ g k) f (λ k _. back k) ∙ e ∙ sym (zero_add K (total n g))

      gone : d a ≡ 𝟘
      gone = add_cancel K (d a) 𝟘 (total n g) whole

  -- rows first, or columns first
  pub total_swap : (n k : ℕ) (f : ℕ → ℕ → F) → total n (λ i. total k (λ j. f i j)) ≡ total k (λ j. total n (λ i. f i j))
  unfolding total
  total_swap zero k f = sym (total-none k (λ _. 𝟘) (λ _ _. refl))
  total_swap (suc n) k f = ap (λ x. x ⊞ total k (λ j. f n j)) (total_swap n k f) ∙ sym (total-add k (λ j. total n (λ i. f i j)) (λ j. f n j))

  -- a sum by its first summand
  pub total_first : (n : ℕ) (f : ℕ → F) → total (suc n) f ≡ f 0 ⊞ total n (λ i. f (suc i))
  unfolding total
  total_first zero f = add_comm 𝟘 (f 0)
  total_first (suc n) f = ap (λ x. x ⊞ f (suc n)) (total_first n f) ∙ add_assoc (f 0) (total n (λ i. f (suc i))) (f (suc n))
