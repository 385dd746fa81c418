-- Combinations of rows of numbers are combinations of equations: what is spanned is known, and what is seen is seen.
use Rattle.std.proofs.Common.{◌≡◌, ℕ, ◌<◌, List, [], ◌∷◌, map, sym, refl, ap, ◌∙◌, ap₂}
use Rattle.field.specs.Field.{Means, Laws, times}
use Rattle.algebra.specs.Frames.{Frame}
use Rattle.algebra.specs.Combinations.{rows, combination, Spanned, Seen}
use Rattle.algebra.proofs.Equations.{Equation, Among, Span, Known, SeenAt}
use Rattle.algebra.proofs.Weights.{combined, combined-span, span-combined}
use Rattle.algebra.proofs.Codes.{Code, code, q_pos, code_zero, code_one, code_back, code_same, code-plus, code-times, scalars}
use Rattle.algebra.proofs.Words.{Place, equation, equations}

module _ (m : Means) (laws : Laws m) where
  pub combination-code : (weights : List ℕ) (xs : List (ℕ → ℕ)) (k : ℕ) → combination m weights xs k < m.q
  unfolding combination
  combination-code [] xs k = q_pos m laws
  combination-code (c ∷ cs) [] k = q_pos m laws
  combination-code (c ∷ cs) (x ∷ xs) k = laws.plus_code (times m c (x k)) (combination m cs xs k)

  values : List (Code m) → List ℕ
  values cs = map (λ c. c.0) cs

  codes : List ℕ → List (Code m)
  codes ws = map (code m laws) ws

  codes_values : (cs : List (Code m)) → codes (values cs) ≡ cs
  unfolding codes values
  codes_values [] = refl
  codes_values (c ∷ cs) = ap₂ (λ x xs. x ∷ xs) (code_back m laws c) (codes_values cs)

  module _ (size : ℕ) where
    combined-row : (weights : List ℕ) (frames : List Frame) (k : ℕ)
        → (combined (scalars m laws) (codes weights) (equations size m laws frames)).row k ≡ code m laws (combination m weights (rows frames) k)
    unfolding combination equations equation codes
    combined-row [] frames k = sym (code_zero m laws)
    combined-row (c ∷ cs) [] k = sym (code_zero m laws)
    combined-row (c ∷ cs) (f ∷ fs) k =
        ap₂ (λ x y. (scalars m laws).◌⊞◌ x y) (sym (code-times m laws c (f.row k))) (combined-row cs fs k)
        ∙ sym (code-plus m laws (times m c (f.row k)) (combination m cs (rows fs) k))

    -- the weights of a combination of equations
    row-weights : (frames : List Frame) {e : Equation (Code m) (Place size)} → Span (scalars m laws) (Among (equations size m laws frames)) e
        → (weights : List ℕ) × ((k : ℕ) → code m laws (combination m weights (rows frames) k) ≡ e.row k)
    row-weights frames {e} span =
        let r = span-combined (scalars m laws) (equations size m laws frames) span in (
          values r.0,
          λ k. sym (combined-row (values r.0) frames k)
              ∙ ap (λ cs. (combined (scalars m laws) cs (equations size m laws frames)).row k) (codes_values r.0) ∙ ap (λ f. f.row k) r.1,
        )

    pub spanned-known : (frames : List Frame) (f : Frame) → Spanned m (rows frames) f.row
        → Known (scalars m laws) (Among (equations size m laws frames)) (equation size m laws f).row
    unfolding equation
    spanned-known frames f s = (
      combined (scalars m laws) (codes s.weights) (equations size m laws frames),
      combined-span (scalars m laws) (codes s.weights) (equations size m laws frames),
      λ k. combined-row s.weights frames k ∙ ap (code m laws) (s.equal k),
    )

    pub known-spanned : (frames : List Frame) (f : Frame) → ((k : ℕ) → f.row k < m.q)
        → Known (scalars m laws) (Among (equations size m laws frames)) (equation size m laws f).row → Spanned m (rows frames) f.row
    unfolding equation
    known-spanned frames f c (h, span, e) =
        let r = row-weights frames span in
        record { weights = r.0; equal = λ k. code_same m laws (combination-code r.0 (rows frames) k) (c k) (r.1 k ∙ e k) }

    pub seen-shown : (frames : List Frame) (k : ℕ) → Seen m (rows frames) k → SeenAt (scalars m laws) (Among (equations size m laws frames)) k
    seen-shown frames k s = (
      combined (scalars m laws) (codes s.weights) (equations size m laws frames),
      combined-span (scalars m laws) (codes s.weights) (equations size m laws frames),
      λ j l. combined-row s.weights frames j ∙ ap (code m laws) (s.below j l) ∙ code_zero m laws,
      combined-row s.weights frames k ∙ ap (code m laws) s.here ∙ code_one m laws,
    )

    pub shown-seen : (frames : List Frame) (k : ℕ) → SeenAt (scalars m laws) (Among (equations size m laws frames)) k → Seen m (rows frames) k
    shown-seen frames k (g, span, low, one) =
        let r = row-weights frames span in
        record {
          weights = r.0;
          below = λ j l. code_same m laws (combination-code r.0 (rows frames) j) (q_pos m laws) (r.1 j ∙ low j l ∙ sym (code_zero m laws));
          here = code_same m laws (combination-code r.0 (rows frames) k) laws.least (r.1 k ∙ one ∙ sym (code_one m laws));
        }
