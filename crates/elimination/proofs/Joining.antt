-- A row that joins a reduced table leaves it reduced.
use Rattle.std.proofs.Common.{◌≡◌, ℕ, zero, suc, ◌+◌, ◌*◌, ◌/◌, ◌%◌, ◌<◌, ◌≤◌, ◌⊎◌, length, get_or, Some, None, Option, sym, refl, ap, ◌∙◌, subst, inl, inr, ⊎_elim, mul-le-mul_right, mod-lt, suc-mul, div-add-mod', arith}
use Rattle.std.proofs.lemmas.List.{length-set, get_or-set_same, get_or-set_other, get_or_past}
use Rattle.std.proofs.lemmas.Bool.{cases_eq, cases_lt, cases_order}
use Rattle.field.specs.Field.{Means, Laws}
use Rattle.elimination.proofs.Clearing.{cleared-coded, cleared-here, cleared_other, cleared_idle}
use Rattle.elimination.specs.Loops.{turns}
use Rattle.elimination.specs.Reduced.{Coded, Reduced}
use Rattle.elimination.specs.Tables.{row_at, cleared, cleared_by, clear_at, joined}
use Rattle.elimination.specs.declared.row.Row.{Row}
use Rattle.elimination.specs.declared.table.Table.{Table}

-- two numbers less than w past start stand at the same place only if they are the same
one_lap : (w start d e p q : ℕ) → d < w → p * w + (start + e) % w ≡ start + e → q * w + (start + d) % w ≡ start + d → (start + d) % w ≡ (start + e) % w → p < q → ⊥
one_lap w start d e p q h f g s l = let k : suc p * w ≤ q * w = mul-le-mul_right w l in omega (arith, suc-mul p w)

same_place : (w start d e : ℕ) → d < w → e < w → (start + d) % w ≡ (start + e) % w → d ≡ e
same_place w start d e hd he s =
    let p : ℕ = (start + e) / w in let q : ℕ = (start + d) / w in
    let f : p * w + (start + e) % w ≡ start + e = div-add-mod' (start + e) w in
    let g : q * w + (start + d) % w ≡ start + d = div-add-mod' (start + d) w in
    ⊎_elim
    (λ z. let k : p * w ≡ q * w = ap (λ n. n * w) z in omega arith)
    (⊎_elim (λ l. absurd (one_lap w start d e p q hd f g s l)) (λ l. absurd (one_lap w start e d q p he g f (sym s) l)))
    (cases_order p q)

module _ (m : Means) (s : ℕ) (x : Row) (t : Table) where
  after : ℕ → Table
  after n = turns (clear_at m s x) t n

  after-length : (n : ℕ) → length (after n).rows ≡ length t.rows
  unfolding after turns
  after-length zero = refl
  after-length (suc n) = length-set (after n).rows n _ ∙ after-length n

  after_above : (n i : ℕ) → n ≤ i → row_at (after n) i ≡ row_at t i
  unfolding after turns
  after_above zero i h = refl
  after_above (suc n) i h = get_or-set_other (after n).rows n i _ None (omega arith) ∙ after_above n i (omega arith)

  after-below : (n i : ℕ) → i < n → i < length t.rows → row_at (after n) i ≡ cleared_by m s x (row_at t i)
  unfolding after turns
  after-below zero i h l = absurd (omega arith)
  after-below (suc n) i h l =
      ⊎_elim
      (λ e. rw e (get_or-set_same (after n).rows n _ None (let q = after-length n in omega arith) ∙ ap (cleared_by m s x) (after_above n n (omega arith))))
      (λ ne. get_or-set_other (after n).rows n i _ None ne ∙ after-below n i (omega arith) l)
      (cases_eq i n)

-- the row z of the table before, of which a row y after it comes
record Old (m : Means) (w s : ℕ) (x : Row) (t : Table) (i : ℕ) (y : Row) : Type 0 where
  z : Row
  was : row_at t i ≡ Some z
  is : y ≡ cleared m s x z
  low : i < w

old_of : (m : Means) (w s : ℕ) (x : Row) (t : Table) (i : ℕ) (y : Row) (o : Option Row) → row_at t i ≡ o → cleared_by m s x o ≡ Some y → i < w → Old m w s x t i y
old_of m w s x t i y None e f l = let q : ◌≡◌ {A = ℕ} 0 1 = cc in absurd (omega arith)
old_of m w s x t i y (Some v) e f l = record { z = v; was = e; is = cc; low = l }

-- the rows of the joined table
module _ (m : Means) (w s : ℕ) (x : Row) (t : Table) (long : length t.rows ≡ w) where
  pub joined_length : length (joined m w s x t).rows ≡ w
  unfolding after
  joined_length = length-set (after m s x t w).rows s (Some x) ∙ after-length m s x t w ∙ long

  pub joined-here : s < w → row_at (joined m w s x t) s ≡ Some x
  unfolding after
  joined-here low = get_or-set_same (after m s x t w).rows s (Some x) None (let q = after-length m s x t w in omega arith)

  pub joined_other : (i : ℕ) → i < w → (i ≡ s → ⊥) → row_at (joined m w s x t) i ≡ cleared_by m s x (row_at t i)
  unfolding after
  joined_other i l ne = get_or-set_other (after m s x t w).rows s i (Some x) None ne ∙ after-below m s x t w i l (omega arith)

  view : s < w → (i : ℕ) (y : Row) → row_at (joined m w s x t) i ≡ Some y → ((i ≡ s) × (y ≡ x)) ⊎ Old m w s x t i y
  view low i y f =
      ⊎_elim
      (λ e. inl (e, let g = joined-here low in let h = subst (λ k. row_at (joined m w s x t) k ≡ Some y) e f in cc))
      (λ ne.
      ⊎_elim
      (λ l. inr (old_of m w s x t i y (row_at t i) refl (sym (joined_other i l ne) ∙ f) l))
      (λ past. let q : ◌≡◌ {A = ℕ} 0 1 = cc (get_or_past (joined m w s x t).rows i None (let q = joined_length in omega arith), f) in absurd (omega arith))
      (cases_lt i w))
      (cases_eq i s)

-- the row x begins with 1 at the distance b past start, and is 0 where the table has rows
module _ (m : Means) (laws : Laws m) (w start b : ℕ) (low : b < w) (x : Row) (t : Table) (red : Reduced m w start t) (cx : Coded m w x)
    (one : get_or x.slots ((start + b) % w) 0 ≡ 1) (before : (d : ℕ) → d < b → get_or x.slots ((start + d) % w) 0 ≡ 0)
    (nil : (i : ℕ) (y : Row) → row_at t i ≡ Some y → get_or x.slots i 0 ≡ 0) where
  abbrev s : ℕ
  s = (start + b) % w

  place : (n : ℕ) → n % w < w
  place n = mod-lt n (omega arith)

  -- what holds of the new row, and of each old one once it is cleared, holds of every row
  by_row : (P : ℕ → Row → Type 0) → P s x → ((i : ℕ) (z : Row) → i < w → row_at t i ≡ Some z → P i (cleared m s x z)) → (i : ℕ) (y : Row) → row_at (joined m w s x t) i ≡ Some y → P i y
  by_row P new old i y f =
      ⊎_elim
      (λ a. subst (λ k. P k y) (sym a.0) (subst (P s) (sym a.1) new))
      (λ o. subst (P i) (sym o.is) (old i o.z o.low o.was))
      (view m w s x t red.sized (place (start + b)) i y f)

  apart-old : (j : ℕ) (v : Row) → row_at t j ≡ Some v → (i : ℕ) (y : Row) → row_at (joined m w s x t) i ≡ Some y → (i ≡ j → ⊥) → get_or (cleared m s x v).slots i 0 ≡ 0
  apart-old j v f =
      by_row (λ i y. (i ≡ j → ⊥) → get_or (cleared m s x v).slots i 0 ≡ 0)
      (λ ne. cleared-here m laws w v x (red.coded j v f) s (place (start + b)) one)
      (λ i z h e ne. cleared_other m laws w v x (red.coded j v f) s i h (nil i z e) ∙ red.apart i j z v ne e f)

  begins-old : (d e : ℕ) (z : Row) → d < e → e < w → row_at t ((start + e) % w) ≡ Some z → get_or (cleared m s x z).slots ((start + d) % w) 0 ≡ 0
  begins-old d e z l h f =
      ⊎_elim
      (λ lt. cleared_other m laws w z x (red.coded _ z f) s ((start + d) % w) (place (start + d)) (before d lt))
      (λ ge. cleared_idle m laws w z x (red.coded _ z f) s ((start + d) % w) (place (start + d)) (red.begins b e z (omega arith) h f))
      (cases_lt d b)
      ∙ red.begins d e z l h f

  pub joined-reduced : Reduced m w start (joined m w ((start + b) % w) x t)
  joined-reduced = record {
    sized = joined_length m w s x t red.sized;
    coded = by_row (λ i y. Coded m w y) cx (λ i z h e. cleared-coded m laws w z x (red.coded i z e) s);
    one = by_row (λ i y. get_or y.slots i 0 ≡ 1) one (λ i z h e. cleared_other m laws w z x (red.coded i z e) s i h (nil i z e) ∙ red.one i z e);
    apart = λ i j y v ne e f.
        by_row (λ j v. (i ≡ j → ⊥) → get_or v.slots i 0 ≡ 0)
        (by_row (λ i y. (i ≡ s → ⊥) → get_or x.slots i 0 ≡ 0) (λ ne. absurd (ne refl)) (λ i z h g ne. nil i z g) i y e)
        (λ j v h g. apart-old j v g i y e) j v f ne;
    begins = λ d e y l h f.
        by_row (λ i y. i ≡ (start + e) % w → get_or y.slots ((start + d) % w) 0 ≡ 0)
        (λ q. before d (let p : b ≡ e = same_place w start b e low h q in omega arith))
        (λ i z hi g q. begins-old d e z l h (subst (λ k. row_at t k ≡ Some z) q g))
        ((start + e) % w) y f refl;
  }
