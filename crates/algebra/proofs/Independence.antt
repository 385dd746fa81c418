-- Independent rows of numbers are independent rows of codes; so are draws that end with 1 in slots of their own.
use Rattle.std.proofs.Common.{◌≡◌, ℕ, ◌<◌, List, [], ◌∷◌, map, length, get_or, sym, ap, ◌∙◌, subst, ap₂, mod-eq_of_lt, zero-add, arith}
use lib.ListN.{length-map}
use Rattle.std.proofs.lemmas.List.FromFn.{get_or-map-range_with_len}
use Rattle.std.specs.List.{range_with_len}
use Rattle.field.specs.Field.{Means, Laws, times}
use Rattle.algebra.specs.Frames.{row_at}
use Rattle.algebra.specs.Combinations.{rows_at, combination, Independent}
use Rattle.algebra.specs.Theorems.{EndsApartIndependent}
use Rattle.algebra.proofs.Scalars.{zero_mul}
use Rattle.algebra.proofs.Sums.{total, total_same, total-none, total_first}
use Rattle.algebra.proofs.Triangular.{triangular}
use Rattle.algebra.proofs.Codes.{Code, code, q_pos, code_path, code_zero, code_one, code_back, code_same, code-plus, code-times, scalars, zero_value}
use Rattle.algebra.proofs.Frames.{row-slot_zero}
use Rattle.algebra.proofs.Rows.{combination-code}

module _ (m : Means) (laws : Laws m) where
  infixl 60 ◌⊞◌
  infixl 70 ◌⊡◌
  open scalars m laws use {𝟘, ◌⊞◌, ◌⊡◌}

  -- the row of a draw, as codes
  abbrev pub row : ℕ → List (List ℕ) → ℕ → ℕ → Code m
  row base draws i k = code m laws (row_at base (get_or draws i []) k)

  -- a combination as a sum
  combination-total : (weights : List ℕ) (base : ℕ) (draws : List (List ℕ)) (k : ℕ)
      → code m laws (combination m weights (rows_at base draws) k) ≡ total (scalars m laws) (length draws) (λ i. code m laws (get_or weights i 0) ⊡ row base draws i k)
  unfolding combination
  combination-total [] base draws k =
      code_zero m laws
      ∙ sym (total-none (scalars m laws) (length draws) (λ i. code m laws (get_or [] i 0) ⊡ row base draws i k)
      (λ i _. ap (λ x. x ⊡ row base draws i k) (code_zero m laws) ∙ zero_mul (scalars m laws) (row base draws i k)))
  combination-total (c ∷ cs) base [] k =
      code_zero m laws ∙ sym (total-none (scalars m laws) 0 (λ i. code m laws (get_or (c ∷ cs) i 0) ⊡ row base [] i k) (λ i l. absurd (omega arith)))
  combination-total (c ∷ cs) base (x ∷ xs) k =
      code-plus m laws (times m c (row_at base x k)) (combination m cs (rows_at base xs) k)
      ∙ ap₂ (λ a b. a ⊞ b) (code-times m laws c (row_at base x k)) (combination-total cs base xs k)
      ∙ sym (total_first (scalars m laws) (length xs) (λ i. code m laws (get_or (c ∷ cs) i 0) ⊡ row base (x ∷ xs) i k))

  pub independent-codes : (draws : List (List ℕ)) → Independent m (rows_at 0 draws) → (c : ℕ → Code m)
      → ((k : ℕ) → total (scalars m laws) (length draws) (λ i. c i ⊡ row 0 draws i k) ≡ 𝟘) → (i : ℕ) → i < length draws → c i ≡ 𝟘
  independent-codes draws free c all i l =
      sym (at i l) ∙ code_path m (free weights none i (subst (λ x. i < x) (sym (length-map draws (row_at 0))) l) ∙ sym (mod-eq_of_lt (q_pos m laws))) ∙ code_zero m laws
    where
      weights : List ℕ
      weights = map (λ i. (c i).0) (range_with_len 0 (length draws))

      at : (i : ℕ) → i < length draws → code m laws (get_or weights i 0) ≡ c i
      at i l = ap (code m laws) (get_or-map-range_with_len (λ i. (c i).0) 0 (length draws) i i 0 l (zero-add i)) ∙ code_back m laws (c i)

      same : (k : ℕ) → total (scalars m laws) (length draws) (λ i. code m laws (get_or weights i 0) ⊡ row 0 draws i k) ≡ total (scalars m laws) (length draws) (λ i. c i ⊡ row 0 draws i k)
      same k = total_same (scalars m laws) (length draws) (λ i. code m laws (get_or weights i 0) ⊡ row 0 draws i k) (λ i. c i ⊡ row 0 draws i k) (λ i l. ap (λ x. x ⊡ row 0 draws i k) (at i l))

      none : (k : ℕ) → combination m weights (rows_at 0 draws) k ≡ 0
      none k = code_same m laws (combination-code m laws weights (rows_at 0 draws) k) (q_pos m laws) (combination-total weights 0 draws k ∙ same k ∙ all k ∙ sym (code_zero m laws))

pub ends_apart_independent : EndsApartIndependent
ends_apart_independent m laws draws last bound below own ends after weights none i l =
    zero_value m laws (get_or weights i 0)
    (triangular (scalars m laws) (length draws) bound (row m laws 0 draws) last below own
    (λ i l. ap (code m laws) (row-slot_zero (get_or draws i []) (last i) ∙ ends i l) ∙ code_one m laws)
    (λ i k l h. ap (code m laws) (row-slot_zero (get_or draws i []) k ∙ after i k l h) ∙ code_zero m laws)
    (λ i. code m laws (get_or weights i 0)) (λ k. sym (combination-total m laws weights 0 draws k) ∙ ap (code m laws) (none k) ∙ code_zero m laws) i
    (subst (λ x. i < x) (length-map draws (row_at 0)) l))
