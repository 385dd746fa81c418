-- Every table that there can be is reduced.
use Rattle.std.proofs.Common.{◌≡◌, ℕ, ◌+◌, ◌%◌, ◌<◌, length, get_or, Some, None, Option, sym, refl, ap, ◌∙◌, subst, ⊎_elim, mod-lt, arith}
use native.Mathlib.Nat.{add-mod_right}
use Rattle.std.proofs.lemmas.List.{length-map, get_or-map, get_or_past, get_or-replicate, length-replicate, length-set, get_or-set_same, get_or-set_other}
use Rattle.std.proofs.lemmas.Bool.{both_ways, not-true, not-false, eq-eqb, eqb-true, cases_eq, cases_lt}
use Rattle.field.specs.Field.{Means, Laws, times, inverse}
use Rattle.elimination.proofs.Joining.{joined-reduced}
use Rattle.elimination.proofs.Reducing.{reduced_zero, reduced-coded}
use Rattle.elimination.proofs.Seeking.{Found, found}
use Rattle.field.proofs.Zeros.{times_zero, inverse_there}
use Rattle.elimination.specs.Absorption.{settled, absorbed}
use Rattle.elimination.specs.Reduced.{Coded, Reduced}
use Rattle.elimination.specs.Rows.{times_all, times_row, scaled, nonzero, first_from}
use Rattle.elimination.specs.Tables.{no_rows, row_at, with_row, reduced}
use Rattle.elimination.specs.declared.row.Row.{Row}
use Rattle.elimination.specs.declared.table.Table.{Table}

-- a row scaled to 1 at a place where it is not 0
module _ (m : Means) (laws : Laws m) (w : ℕ) (x : Row) (cx : Coded m w x) where
  times-at : (c k : ℕ) → k < w → get_or (times_all m c x.slots) k 0 ≡ times m c (get_or x.slots k 0)
  unfolding times_all
  times-at c k h = get_or-map (times m c) x.slots k 0 0 (let q = cx.long in omega arith)

  times-coded : (c : ℕ) → Coded m w (times_row m (Some c) x)
  unfolding times_all
  times-coded c = record {
    long = length-map x.slots (times m c) ∙ cx.long;
    codes = λ k h. subst (λ n. n < m.q) (sym (times-at c k h)) (laws.times_code c (get_or x.slots k 0));
  }

  record Monic (s : ℕ) (y : Row) : Type 0 where
    coded : Coded m w y
    one : get_or y.slots s 0 ≡ 1
    nil : (k : ℕ) → k < w → get_or x.slots k 0 ≡ 0 → get_or y.slots k 0 ≡ 0

  monic : (s : ℕ) (o : Option ℕ) → s < w → (get_or x.slots s 0 ≡ 0 → ⊥) → inverse m (get_or x.slots s 0) ≡ o → Monic s (times_row m o x)
  monic s None h ne e = absurd (inverse_there m laws (get_or x.slots s 0) (cx.codes s h) ne e)
  monic s (Some c) h ne e = record {
    coded = times-coded c;
    one = times-at c s h ∙ laws.times_comm c _ ∙ laws.times_inverse _ c e;
    nil = λ k hk z. times-at c k hk ∙ ap (times m c) z ∙ times_zero m laws c;
  }

row_low : (w : ℕ) (t : Table) (i : ℕ) (y : Row) → length t.rows ≡ w → row_at t i ≡ Some y → i < w
row_low w t i y l e =
    ⊎_elim (λ h. h) (λ past. let g = get_or_past t.rows i None (omega arith) in let z : ◌≡◌ {A = ℕ} 0 1 = cc in absurd (omega arith)) (cases_lt i w)

module _ (m : Means) (laws : Laws m) (w start : ℕ) (t : Table) (red : Reduced m w start t) where
  settled-reduced : (x : Row) → Coded m w x → ((i : ℕ) (y : Row) → i < w → row_at t i ≡ Some y → get_or x.slots i 0 ≡ 0) → (o : Option ℕ) → first_from w start x ≡ o → Reduced m w start (settled m w start x t o).table
  settled-reduced x cx nil None f = red
  settled-reduced x cx nil (Some b) f =
      let r : Found (nonzero w start x) 0 w b = found (nonzero w start x) 0 w b f in
      let low : b < w = omega (arith, r.within) in
      let s : ℕ = (start + b) % w in
      let place : (n : ℕ) → n % w < w = λ n. mod-lt n (omega arith) in
      let y : Monic m laws w x cx s (scaled m s x) = monic m laws w x cx s (inverse m (get_or x.slots s 0)) (place (start + b)) (λ z. both_ways _ (not-true _ r.passes) (eq-eqb _ _ z)) refl in
      joined-reduced m laws w start b low (scaled m s x) t red y.coded y.one
      (λ d l. y.nil _ (place (start + d)) (eqb-true _ _ (not-false _ (r.first d (omega arith) l))))
      (λ i z e. let h : i < w = row_low w t i z red.sized e in y.nil i h (nil i z h e))

  pub absorbed-reduced : (x : Row) → Coded m w x → Reduced m w start (absorbed m w start x t).table
  absorbed-reduced x cx =
      settled-reduced (reduced m w t x) (reduced-coded m laws w start t red x cx) (λ i y h e. reduced_zero m laws w start t red x cx i y h e) (first_from w start (reduced m w t x)) refl

-- a row leaves
module _ (m : Means) (w start : ℕ) (t : Table) (pos : 0 < w) (red : Reduced m w start t) where
  stays : (i j : ℕ) (y : Row) → i < w → row_at (with_row i None t) j ≡ Some y → (j ≡ i → ⊥) × (row_at t j ≡ Some y)
  stays i j y h e =
      ⊎_elim
      (λ q. let g = get_or-set_same t.rows i None None (let l = red.sized in omega arith) in let f = subst (λ k. row_at (with_row i None t) k ≡ Some y) q e in
      let z : ◌≡◌ {A = ℕ} 0 1 = cc in absurd (omega arith))
      (λ ne. (ne, sym (get_or-set_other t.rows i j None None ne) ∙ e)) (cases_eq j i)

  pub left-reduced : Reduced m w (start + 1) (with_row (start % w) None t)
  left-reduced =
      let h : start % w < w = mod-lt start pos in record {
        sized = length-set t.rows (start % w) None ∙ red.sized;
        coded = λ j y e. red.coded j y (stays (start % w) j y h e).1;
        one = λ j y e. red.one j y (stays (start % w) j y h e).1;
        apart = λ i j y z ne e f. red.apart i j y z ne (stays (start % w) i y h e).1 (stays (start % w) j z h f).1;
        begins = λ d e y l he f.
            let there = stays (start % w) ((start + 1 + e) % w) y h f in
            let moved : start + 1 + e ≡ start + (e + 1) = omega arith in
            let at : start + 1 + d ≡ start + (d + 1) = omega arith in
            ⊎_elim
            (λ lt. ap (λ n. get_or y.slots (n % w) 0) at ∙ red.begins (d + 1) (e + 1) y (omega arith) lt (subst (λ n. row_at t (n % w) ≡ Some y) moved there.1))
            (λ ge. let all : start + 1 + e ≡ start + w = omega arith in absurd (there.0 (ap (λ n. n % w) all ∙ add-mod_right start w)))
            (cases_lt (e + 1) w);
      }

none_there : (w i : ℕ) (y : Row) → row_at (no_rows w) i ≡ Some y → ⊥
none_there w i y e =
    let z : ◌≡◌ {A = ℕ} 0 1 = cc (get_or-replicate {A = Option Row} w i None None (row_low w (no_rows w) i y (length-replicate w None) e), e) in omega arith

pub no_rows-reduced : (m : Means) (w start : ℕ) → Reduced m w start (no_rows w)
no_rows-reduced m w start = record {
  sized = length-replicate w None;
  coded = λ i y e. absurd (none_there w i y e);
  one = λ i y e. absurd (none_there w i y e);
  apart = λ i j y z ne e f. absurd (none_there w i y e);
  begins = λ d e y l h f. absurd (none_there w _ y f);
}
