-- What rows span and show seen, they do with one more row, by the weight 0.
use Rattle.std.proofs.Common.{◌≡◌, ℕ, ◌<◌, List, [], ◌∷◌, ap, ◌∙◌}
use Rattle.field.specs.Field.{Means, Laws, times}
use Rattle.algebra.specs.Combinations.{combination}
use Rattle.algebra.specs.Theorems.{SpansGrow}
use Rattle.algebra.proofs.Scalars.{zero_add, zero_mul}
use Rattle.algebra.proofs.Codes.{code, code_zero, code_same, code-plus, code-times, scalars}
use Rattle.algebra.proofs.Rows.{combination-code}

module _ (m : Means) (laws : Laws m) (x : ℕ → ℕ) (codes : (k : ℕ) → x k < m.q) where
  open scalars m laws use {◌⊞◌, ◌⊡◌}

  alone : (k : ℕ) → combination m (1 ∷ []) (x ∷ []) k ≡ x k
  unfolding combination
  alone k = laws.plus_zero (times m 1 (x k)) (laws.times_code 1 (x k)) ∙ laws.times_comm 1 (x k) ∙ laws.times_one (x k) (codes k)

  more : (weights : List ℕ) (xs : List (ℕ → ℕ)) (k : ℕ) → combination m (0 ∷ weights) (x ∷ xs) k ≡ combination m weights xs k
  unfolding combination
  more weights xs k =
      code_same m laws (laws.plus_code (times m 0 (x k)) (combination m weights xs k)) (combination-code m laws weights xs k)
      (code-plus m laws (times m 0 (x k)) (combination m weights xs k)
      ∙ ap (λ a. ◌⊞◌ a (code m laws (combination m weights xs k)))
      (code-times m laws 0 (x k) ∙ ap (λ a. ◌⊡◌ a (code m laws (x k))) (code_zero m laws) ∙ zero_mul (scalars m laws) (code m laws (x k)))
      ∙ zero_add (scalars m laws) (code m laws (combination m weights xs k)))

pub spans_grow_lem : SpansGrow
unfolding combination
spans_grow_lem m laws x codes xs = record {
  itself = record { weights = 1 ∷ []; equal = alone m laws x codes };
  spanned = λ y s. record { weights = 0 ∷ s.weights; equal = λ k. more m laws x codes s.weights xs k ∙ s.equal k };
  seen = λ k s. record {
    weights = 0 ∷ s.weights;
    below = λ j l. more m laws x codes s.weights xs j ∙ s.below j l;
    here = more m laws x codes s.weights xs k ∙ s.here;
  };
}
