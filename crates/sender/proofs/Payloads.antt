-- Sums over a window: as a loop makes them, and as the part of a stream's sum that counts.
use Rattle.std.proofs.Common.{◌≡◌, ℕ, zero, suc, ◌+◌, ◌-◌, ◌<◌, ◌≤◌, ◌⊎◌, refl, ap, ◌∙◌, ap₂, inl, inr, add-zero, add-suc, add-one, arith}
use Rattle.field.specs.Field.{Means, Laws, plus}
use Rattle.algebra.specs.Streams.{sum}
use Rattle.algebra.proofs.Codes.{q_pos, sum-code}

pub sum-none : (m : Means) (f : ℕ → ℕ) → sum m 0 f ≡ 0
unfolding sum
sum-none m f = refl

pub sum_more : (m : Means) (n : ℕ) (f : ℕ → ℕ) (old new next : ℕ) → old ≡ sum m n f → next ≡ f n → new ≡ plus m old next → new ≡ sum m (n + 1) f
unfolding sum
sum_more m n f old new next e same step = rw add-one (step ∙ ap₂ (plus m) e same)

pub sum_same : (m : Means) (n : ℕ) (f g : ℕ → ℕ) → ((k : ℕ) → k < n → f k ≡ g k) → sum m n f ≡ sum m n g
unfolding sum
sum_same m zero f g h = refl
sum_same m (suc n) f g h = ap₂ (plus m) (sum_same m n f g (λ k l. h k (omega arith))) (h n (omega arith))

module _ (m : Means) (laws : Laws m) where
  sum_zeros : (n : ℕ) (f : ℕ → ℕ) → ((k : ℕ) → k < n → f k ≡ 0) → sum m n f ≡ 0
  unfolding sum
  sum_zeros zero f h = refl
  sum_zeros (suc n) f h = ap₂ (plus m) (sum_zeros n f (λ k l. h k (omega arith))) (h n (omega arith)) ∙ laws.plus_zero 0 (q_pos m laws)

  sum-after : (u v : ℕ) (f : ℕ → ℕ) → ((k : ℕ) → k < u → f k ≡ 0) → sum m (u + v) f ≡ sum m v (λ i. f (u + i))
  unfolding sum
  sum-after u zero f h = ap (λ (n : ℕ). sum m n f) (add-zero u) ∙ sum_zeros u f h
  sum-after u (suc v) f h = ap (λ (n : ℕ). sum m n f) (add-suc u v) ∙ ap (λ (z : ℕ). plus m z (f (u + v))) (sum-after u v f h)

  sum-before : (n v : ℕ) (f : ℕ → ℕ) → ((k : ℕ) → n ≤ k → f k ≡ 0) → sum m (n + v) f ≡ sum m n f
  unfolding sum
  sum-before n zero f h = ap (λ (a : ℕ). sum m a f) (add-zero n)
  sum-before n (suc v) f h =
      ap (λ (a : ℕ). sum m a f) (add-suc n v) ∙ ap₂ (plus m) (sum-before n v f h) (h (n + v) (omega arith)) ∙ laws.plus_zero (sum m n f) (sum-code m laws n f)

  -- a sum of which only the v places from u on count
  pub sum-window : (n u v : ℕ) (f : ℕ → ℕ) → u + v ≤ n → ((k : ℕ) → (k < u) ⊎ (u + v ≤ k) → f k ≡ 0) → sum m n f ≡ sum m v (λ i. f (u + i))
  sum-window n u v f fit none =
      let all : n ≡ u + v + (n - (u + v)) = omega arith in
      ap (λ (a : ℕ). sum m a f) all ∙ sum-before (u + v) (n - (u + v)) f (λ k h. none k (inr h)) ∙ sum-after u v f (λ k h. none k (inl h))
