-- Combinations by a list of coefficients are the combinations.
use Rattle.std.proofs.Common.{◌≡◌, List, [], ◌∷◌, map, sym, refl, ap, ◌∙◌, ap₂, inl, inr}
use Rattle.algebra.proofs.Scalars.{Scalars, zero_add, zero_mul, mul_zero, one-mul, add-mul, add_swap}
use Rattle.algebra.proofs.Equations.{Equation, Among, Span, Span.given, Span.nothing, Span.sums, Span.multiple, null, added, multiplied, equation_path, span-through}

module _ {F : Type 0} (K : Scalars F) where
  -- the sums of two lists of coefficients, one that lacks counting as 0
  both : List F → List F → List F
  both [] ds = ds
  both (c ∷ cs) [] = c ∷ cs
  both (c ∷ cs) (d ∷ ds) = K.◌⊞◌ c d ∷ both cs ds

module _ {F P : Type 0} (K : Scalars F) where
  infixl 60 ◌⊞◌
  infixl 70 ◌⊡◌
  open K use {𝟘, 𝟙, ◌⊞◌, ◌⊡◌, add_zero, mul_add, mul_assoc}

  -- the sum of coefficient times equation; a coefficient that lacks counts as 0
  abbrev pub combined : List F → List (Equation F P) → Equation F P
  combined [] fs = null K
  combined (c ∷ cs) [] = null K
  combined (c ∷ cs) (f ∷ fs) = added K (multiplied K c f) (combined cs fs)

  pub combined-span : (cs : List F) (fs : List (Equation F P)) → Span K (Among fs) (combined cs fs)
  combined-span [] fs = nothing
  combined-span (c ∷ cs) [] = nothing
  combined-span (c ∷ cs) (f ∷ fs) = sums (multiple c (given (inl refl))) (span-through K (λ x w. given (inr w)) (combined-span cs fs))

  add-null : (f : Equation F P) → added K f (null K) ≡ f
  add-null f = equation_path K (added K f (null K)) f (λ k. add_zero (f.row k)) (λ i. add_zero (f.pay i))

  null-add : (f : Equation F P) → added K (null K) f ≡ f
  null-add f = equation_path K (added K (null K) f) f (λ k. zero_add K (f.row k)) (λ i. zero_add K (f.pay i))

  multiple-is : (c : F) (ds : List F) (fs : List (Equation F P)) → combined (map (λ d. c ⊡ d) ds) fs ≡ multiplied K c (combined ds fs)
  multiple-is c [] fs = equation_path K (null K) (multiplied K c (null K)) (λ _. sym (mul_zero K c)) (λ _. sym (mul_zero K c))
  multiple-is c (d ∷ ds) [] = equation_path K (null K) (multiplied K c (null K)) (λ _. sym (mul_zero K c)) (λ _. sym (mul_zero K c))
  multiple-is c (d ∷ ds) (f ∷ fs) =
      ap (λ x. added K (multiplied K (c ⊡ d) f) x) (multiple-is c ds fs)
      ∙ equation_path K (added K (multiplied K (c ⊡ d) f) (multiplied K c (combined ds fs))) (multiplied K c (added K (multiplied K d f) (combined ds fs)))
      (λ k. out (f.row k) ((combined ds fs).row k)) (λ i. out (f.pay i) ((combined ds fs).pay i))
    where
      out : (x y : F) → (c ⊡ d) ⊡ x ⊞ c ⊡ y ≡ c ⊡ (d ⊡ x ⊞ y)
      out x y = ap (λ u. u ⊞ c ⊡ y) (mul_assoc c d x) ∙ sym (mul_add c (d ⊡ x) y)

  both_is : (cs ds : List F) (fs : List (Equation F P)) → combined (both K cs ds) fs ≡ added K (combined cs fs) (combined ds fs)
  unfolding both
  both_is [] ds fs = sym (null-add (combined ds fs))
  both_is (c ∷ cs) [] fs = sym (add-null (combined (c ∷ cs) fs))
  both_is (c ∷ cs) (d ∷ ds) [] = sym (add-null (null K))
  both_is (c ∷ cs) (d ∷ ds) (f ∷ fs) =
      ap (λ x. added K (multiplied K (c ⊞ d) f) x) (both_is cs ds fs)
      ∙ equation_path K (added K (multiplied K (c ⊞ d) f) (added K (combined cs fs) (combined ds fs)))
      (added K (added K (multiplied K c f) (combined cs fs)) (added K (multiplied K d f) (combined ds fs)))
      (λ k. out (f.row k) ((combined cs fs).row k) ((combined ds fs).row k)) (λ i. out (f.pay i) ((combined cs fs).pay i) ((combined ds fs).pay i))
    where
      out : (x y z : F) → (c ⊞ d) ⊡ x ⊞ (y ⊞ z) ≡ (c ⊡ x ⊞ y) ⊞ (d ⊡ x ⊞ z)
      out x y z = ap (λ u. u ⊞ (y ⊞ z)) (add-mul K c d x) ∙ add_swap K (c ⊡ x) (d ⊡ x) y z

  one_of : (fs : List (Equation F P)) (f : Equation F P) → Among fs f → (cs : List F) × (combined cs fs ≡ f)
  one_of [] f w = absurd w
  one_of (g ∷ gs) f (inl e) =
      (𝟙 ∷ [], add-null (multiplied K 𝟙 g) ∙ equation_path K (multiplied K 𝟙 g) g (λ k. one-mul K (g.row k)) (λ i. one-mul K (g.pay i)) ∙ sym e)
  one_of (g ∷ gs) f (inr w) =
      let r = one_of gs f w in (
        𝟘 ∷ r.0,
        equation_path K (added K (multiplied K 𝟘 g) (combined r.0 gs)) (combined r.0 gs) (λ k. ap (λ x. x ⊞ (combined r.0 gs).row k) (zero_mul K (g.row k)) ∙ zero_add K ((combined r.0 gs).row k))
            (λ i. ap (λ x. x ⊞ (combined r.0 gs).pay i) (zero_mul K (g.pay i)) ∙ zero_add K ((combined r.0 gs).pay i))
            ∙ r.1,
      )

  pub span-combined : (fs : List (Equation F P)) {f : Equation F P} → Span K (Among fs) f → (cs : List F) × (combined cs fs ≡ f)
  span-combined fs {f} (given w) = one_of fs f w
  span-combined fs nothing = ([], refl)
  span-combined fs (sums x y) =
      let r = span-combined fs x in
      let t = span-combined fs y in
      (both K r.0 t.0, both_is r.0 t.0 fs ∙ ap₂ (λ u v. added K u v) r.1 t.1)
  span-combined fs (multiple c x) =
      let r = span-combined fs x in
      (map (λ d. c ⊡ d) r.0, multiple-is c r.0 fs ∙ ap (λ u. multiplied K c u) r.1)
