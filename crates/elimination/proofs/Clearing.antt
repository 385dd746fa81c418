-- A row made 0 at the place i by a row y.
use Rattle.std.proofs.Common.{◌≡◌, ℕ, ◌<◌, List, length, get_or, sym, ap, ◌∙◌, subst, arith}
use Rattle.std.proofs.lemmas.List.FromFn.{length-map-range_with_len, get_or-map-range_with_len}
use Rattle.field.specs.Field.{Means, Laws, minus, times}
use Rattle.field.proofs.Zeros.{minus_zero, minus_self, times_zero, zero_times}
use Rattle.elimination.specs.Reduced.{Coded}
use Rattle.elimination.specs.Rows.{less, less_all}
use Rattle.elimination.specs.Tables.{cleared}
use Rattle.elimination.specs.declared.row.Row.{Row}

length-less_all : (m : Means) (c : ℕ) (ys xs : List ℕ) → length (less_all m c ys xs) ≡ length xs
unfolding less_all
length-less_all m c ys xs = length-map-range_with_len (less m c ys xs) 0 (length xs)

get_or-less_all : (m : Means) (c : ℕ) (ys xs : List ℕ) (k : ℕ) → k < length xs → get_or (less_all m c ys xs) k 0 ≡ less m c ys xs k
unfolding less_all
get_or-less_all m c ys xs k h = get_or-map-range_with_len (less m c ys xs) 0 (length xs) k k 0 h (omega arith)

module _ (m : Means) (laws : Laws m) (w : ℕ) (x y : Row) (cx : Coded m w x) (i : ℕ) where
  at : (k : ℕ) → k < w → get_or (cleared m i y x).slots k 0 ≡ less m (get_or x.slots i 0) y.slots x.slots k
  at k h = get_or-less_all m _ y.slots x.slots k (let l = cx.long in omega arith)

  pub cleared-coded : Coded m w (cleared m i y x)
  cleared-coded = record {
    long = length-less_all m _ y.slots x.slots ∙ cx.long;
    codes = λ k h. subst (λ n. n < m.q) (sym (at k h)) (laws.minus_code (get_or x.slots k 0) (times m (get_or x.slots i 0) (get_or y.slots k 0)));
  }

  -- where y is 1, the row is 0
  pub cleared-here : i < w → get_or y.slots i 0 ≡ 1 → get_or (cleared m i y x).slots i 0 ≡ 0
  cleared-here h one =
      at i h ∙ ap (λ b. minus m (get_or x.slots i 0) (times m (get_or x.slots i 0) b)) one
      ∙ ap (minus m (get_or x.slots i 0)) (laws.times_one _ (cx.codes i h)) ∙ minus_self m laws _ (cx.codes i h)

  -- where y is 0, it is as it was
  pub cleared_other : (k : ℕ) → k < w → get_or y.slots k 0 ≡ 0 → get_or (cleared m i y x).slots k 0 ≡ get_or x.slots k 0
  cleared_other k h nil =
      at k h ∙ ap (λ b. minus m (get_or x.slots k 0) (times m (get_or x.slots i 0) b)) nil
      ∙ ap (minus m (get_or x.slots k 0)) (times_zero m laws _) ∙ minus_zero m laws _ (cx.codes k h)

  -- where it was 0 at i already, it is as it was
  pub cleared_idle : (k : ℕ) → k < w → get_or x.slots i 0 ≡ 0 → get_or (cleared m i y x).slots k 0 ≡ get_or x.slots k 0
  cleared_idle k h nil =
      at k h ∙ ap (λ a. minus m (get_or x.slots k 0) (times m a (get_or y.slots k 0))) nil
      ∙ ap (minus m (get_or x.slots k 0)) (zero_times m laws _) ∙ minus_zero m laws _ (cx.codes k h)
