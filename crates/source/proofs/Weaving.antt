-- The woven source writes what it means, code after code.
use Rattle.std.proofs.Common.{◌≡◌, ℕ, suc, ◌+◌, ◌-◌, ◌<◌, ◌≤◌, cond, eqb, ltb, ◌⊎◌, List, ◌++◌, length, get_or, set, take, drop, sym, ap, ◌∙◌, subst, inl, inr, refl, arith}
use Rattle.std.proofs.lemmas.Bool.{cases_lt, lt-ltb, le-ltb, cond-true, cond-false}
use Rattle.std.proofs.lemmas.List.{get_or_append_left, get_or-append_right, get_or-drop, length-append, length-take, length-drop}
use Rattle.std.proofs.lemmas.List.Edits.{fill_by_more}
use Rattle.std.proofs.lemmas.List.FromFn.{fill_by_all, length-map-range_with_len, get_or-map-range_with_len}
use Rattle.source.specs.declared.woven.Woven.{Woven}
use Rattle.source.specs.OfWoven.{stepped, advanced, generated, code, codes}
use Rattle.source.specs.Turn.{slot, ending}

-- the source after k codes
abbrev pub after : Woven → ℕ → Woven
after x k = record { turn = x.turn; v = generated x.v k }

pub none_yet : (x : Woven) → x ≡ after x 0
unfolding generated
none_yet x = refl

module _ (x s : Woven) (k : ℕ) (e : s ≡ after x k) where
  pub goes_on : (t : Woven) → t ≡ advanced s → t ≡ after x (k + 1)
  unfolding generated
  goes_on t step = let next : suc k ≡ k + 1 = omega arith in step ∙ ap advanced e ∙ ap (after x) next

  -- the code that it gives next
  pub right : (q y : ℕ) → y ≡ code q (stepped s.v) → y ≡ codes x q k
  unfolding generated
  right q y is = is ∙ ap (λ (t : Woven). code q (stepped t.v)) e

-- one more code is right
pub one_right : (f : ℕ → ℕ) (xs : List ℕ) (i y : ℕ) → i < length xs → ((k : ℕ) → k < i → get_or xs k 0 ≡ f k) → y ≡ f i
    → (k : ℕ) → k < i + 1 → get_or (set xs i y) k 0 ≡ f k
one_right f xs i y h inv e = subst (λ z. (k : ℕ) → k < i + 1 → get_or (set xs i z) k 0 ≡ f k) (sym e) (fill_by_more f xs i 0 h inv)

-- there are as many slots below the place as its number
pub below_place : (w p : ℕ) (slots : List ℕ) → p < w → slots ≡ ending w p (λ i. 0) → length (take p slots) ≡ p
unfolding ending
below_place w p slots h e =
    let all : length slots ≡ w = ap length e ∙ length-map-range_with_len (slot p (λ i. 0)) 0 w in
    omega (arith, length-take p slots)

-- the codes below the place, and from the place on the slots that were marked
module _ (w p : ℕ) (f : ℕ → ℕ) (below : List ℕ) (long : length below ≡ p) (fits : p < w) (filled : (k : ℕ) → k < p → get_or below k 0 ≡ f k) where
  marks : List ℕ
  marks = ending w p (λ i. 0)

  at : (k : ℕ) → k < w → (k < p) ⊎ (p ≤ k) → get_or (below ++ drop p marks) k 0 ≡ slot p f k
  unfolding marks ending
  at k h (inl l) =
      get_or_append_left below (drop p marks) 0 k (omega (arith, long)) ∙ filled k l ∙ sym (cond-true (ltb k p) (f k) (cond (eqb k p) 1 0) (lt-ltb k p l))
  at k h (inr l) =
      let back : p + (k - p) ≡ k = omega arith in
      get_or-append_right below (drop p marks) p k 0 long l ∙ get_or-drop p marks (k - p) 0 ∙ ap (λ (j : ℕ). get_or marks j 0) back
      ∙ get_or-map-range_with_len (slot p (λ i. 0)) 0 w k k 0 h (omega arith)
      ∙ cond-false (ltb k p) 0 (cond (eqb k p) 1 0) (le-ltb k p l) ∙ sym (cond-false (ltb k p) (f k) (cond (eqb k p) 1 0) (le-ltb k p l))

  pub all_right : below ++ drop p (ending w p (λ i. 0)) ≡ ending w p f
  unfolding marks ending
  all_right =
      fill_by_all (slot p f) (below ++ drop p marks) w 0
      (omega (arith, length-append below (drop p marks), length-drop p marks, length-map-range_with_len (slot p (λ i. 0)) 0 w, long))
      (λ k h. at k h (cases_lt k p))
