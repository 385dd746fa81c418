-- A packet that arrives in a frame of its own, in its turn, at a receiver whose table is empty: it is fresh, and is
-- released at once.
use Rattle.std.proofs.Common.{◌≡◌, ℕ, zero, suc, ◌+◌, ◌%◌, ◌<◌, Bool, true, not, ◌||◌, eqb, List, [], ◌∷◌, map, get_or, set, replicate, Some, None, Option, sym, refl, ap, ◌∙◌, subst, inl, inr, add-zero, arith}
use lib.ListN.{length-replicate}
use Rattle.std.proofs.Math.Bool.{or-true}
use Rattle.std.proofs.ByRecursion.{All-set, All-from_get_or, All-weaker}
use Rattle.std.proofs.lemmas.List.{get_or-replicate, get_or_past, get_or-set_same, get_or-set_other, set-get_or}
use Rattle.std.proofs.lemmas.Bool.{cases_eq, cases_lt, cond-true, eq-eqb}
use Rattle.std.specs.Int.Digits.{AllBelowBase}
use Rattle.std.specs.List.{AllByRecursion as All}
use Rattle.field.specs.Field.{Means, Laws, times, inverse}
use Rattle.elimination.proofs.Same.{same_row}
use Rattle.elimination.proofs.Turns.{seek_yes}
use Rattle.field.proofs.Zeros.{inverse_there}
use Rattle.elimination.specs.Absorption.{absorption, absorbed, decided, settled, with_pivot}
use Rattle.elimination.specs.Loops.{turns, every}
use Rattle.elimination.specs.Rows.{times_all, times_row, scaled, nonzero, first_from, zero_beside, unit_at}
use Rattle.elimination.specs.Tables.{no_rows, row_at, with_row, reduced, reduced_by, cleared_by, clear_at, joined, packet_in, solved}
use Rattle.elimination.specs.declared.row.Row.{Row}
use Rattle.elimination.specs.declared.table.Verdict.TheVariants.{Innovative}

-- turns that change nothing
still : {A : Type 0} (f : ℕ → A → A) (a : A) → ((i : ℕ) → f i a ≡ a) → (n : ℕ) → turns f a n ≡ a
unfolding turns
still f a h zero = refl
still f a h (suc n) = ap (f n) (still f a h n) ∙ h n

-- turns of which only the first changes something
pub then_still : {A : Type 0} (f : ℕ → A → A) (a b : A) → f 0 a ≡ b → ((i : ℕ) → f i b ≡ b) → (n : ℕ) → turns f a (suc n) ≡ b
unfolding turns
then_still f a b e h zero = e
then_still f a b e h (suc n) = ap (f (suc n)) (then_still f a b e h n) ∙ h (suc n)

every_true : (p : ℕ → Bool) → ((i : ℕ) → p i ≡ true) → (n : ℕ) → every p n ≡ true
unfolding every
every_true p h zero = refl
every_true p h (suc n) = rw (every_true p h n, h n)

map_same : (f : ℕ → ℕ) (xs : List ℕ) → All (λ x. f x ≡ x) xs → map f xs ≡ xs
map_same f [] a = refl
map_same f (x ∷ xs) a = ap (λ (y : ℕ). y ∷ map f xs) a.0 ∙ ap (λ (ys : List ℕ). x ∷ ys) (map_same f xs a.1)

module _ (w : ℕ) where
  pub none-at : (i : ℕ) → row_at (no_rows w) i ≡ None
  none-at i =
      elim (cases_lt i w) [
        | inl l ↦ get_or-replicate w i None None l
        | inr m ↦ get_or_past (replicate w None) i None (rw length-replicate m)
      ]

  pub none-set : (i : ℕ) → with_row i None (no_rows w) ≡ no_rows w
  none-set i =
      ap (λ (l : List (Option Row)). record { rows = l })
      (ap (set (replicate w None) i) (sym (none-at i)) ∙ set-get_or (replicate w None) i None)

  reduced-none : (m : Means) (x : Row) → reduced m w (no_rows w) x ≡ x
  reduced-none m x =
      still (λ i. reduced_by m i (row_at (no_rows w) i)) x (λ i. ap (λ (o : Option Row). reduced_by m i o x) (none-at i)) w

  joined-none : (m : Means) (s : ℕ) (x : Row) → joined m w s x (no_rows w) ≡ with_row s (Some x) (no_rows w)
  joined-none m s x =
      ap (with_row s (Some x))
      (still (clear_at m s x) (no_rows w)
      (λ i. ap (λ (o : Option Row). with_row i (cleared_by m s x o) (no_rows w)) (none-at i) ∙ none-set i) w)

  module _ (m : Means) (laws : Laws m) (s : ℕ) (inside : s < w) (p : List ℕ) (codes : AllBelowBase m.q p) where
    -- the row of one packet, at the place s
    unfoldable pub alone_row : Row
    alone_row = record { slots = set (replicate w 0) s 1; payload = p }

    one : get_or alone_row.slots s 0 ≡ 1
    unfolding alone_row
    one = get_or-set_same (replicate w 0) s 1 0 (rw length-replicate inside)

    zero_at : (i : ℕ) → ◌≡◌ {A = ℕ} (get_or (replicate w 0) i 0) 0
    zero_at i =
        elim (cases_lt i w) [
          | inl l ↦ get_or-replicate w i 0 0 l
          | inr h ↦ get_or_past (replicate w 0) i 0 (rw length-replicate h)
        ]

    unit : unit_at w s alone_row ≡ true
    unfolding alone_row
    unit = every_true (zero_beside s alone_row) at w
      where
        at : (i : ℕ) → zero_beside s alone_row i ≡ true
        at i =
            elim (cases_eq i s) [
              | inl e ↦ ap (λ (b : Bool). b || eqb (get_or alone_row.slots i 0) 0) (eq-eqb i s e)
              | inr ne ↦ ap (λ (b : Bool). eqb i s || b) (eq-eqb _ 0 (get_or-set_other (replicate w 0) s i 1 0 ne ∙ zero_at i)) ∙ or-true (eqb i s)
            ]

    one_code : 1 < m.q
    one_code = laws.least

    inverse-one : (o : Option ℕ) → inverse m 1 ≡ o → o ≡ Some 1
    inverse-one None e = absurd (inverse_there m laws 1 one_code (λ z. omega arith) e)
    inverse-one (Some i) e =
        ap Some (sym (laws.times_one i (laws.inverse_code 1 i e)) ∙ laws.times_comm i 1 ∙ laws.times_inverse 1 i e)

    by_one : (x : ℕ) → x < m.q → times m 1 x ≡ x
    by_one x h = laws.times_comm 1 x ∙ laws.times_one x h

    -- it is scaled already
    scaled-alone : scaled m s alone_row ≡ alone_row
    unfolding alone_row times_all
    scaled-alone =
        ap (λ (x : ℕ). times_row m (inverse m x) alone_row) one
        ∙ ap (λ (o : Option ℕ). times_row m o alone_row) (inverse-one (inverse m 1) refl)
        ∙ same_row _ _
        (map_same (times m 1) (set (replicate w 0) s 1)
        (All-set (λ x. times m 1 x ≡ x) (replicate w 0) s 1 (by_one 1 one_code)
        (All-from_get_or (λ x. times m 1 x ≡ x) (replicate w 0) 0 (λ i h. subst (λ (x : ℕ). times m 1 x ≡ x) (sym (zero_at i)) (by_one 0 (omega (arith, one_code)))))))
        (map_same (times m 1) p (All-weaker (λ x. x < m.q) (λ x. times m 1 x ≡ x) by_one p codes))

    -- an empty table takes it in, at no distance from k
    module _ (k : ℕ) (place : k % w ≡ s) where
      place_at : (k + 0) % w ≡ s
      place_at = ap (λ (n : ℕ). n % w) (add-zero k) ∙ place

      begins : first_from w k alone_row ≡ Some 0
      begins =
          seek_yes (nonzero w k alone_row) 0 w (omega (arith, inside))
          (ap (λ (i : ℕ). not (eqb (get_or alone_row.slots i 0) 0)) place_at ∙ ap (λ (x : ℕ). not (eqb x 0)) one)

      pub absorbed-alone : absorbed m w k alone_row (no_rows w) ≡ absorption (Innovative 0) (with_row s (Some alone_row) (no_rows w))
      absorbed-alone =
          ap (decided m w k (no_rows w)) (reduced-none m alone_row)
          ∙ ap (settled m w k alone_row (no_rows w)) begins
          ∙ ap (λ (i : ℕ). absorption (Innovative 0) (with_pivot m w i alone_row (no_rows w))) place_at
          ∙ ap (λ (x : Row). absorption (Innovative 0) (joined m w s x (no_rows w))) scaled-alone
          ∙ ap (absorption (Innovative 0)) (joined-none m s alone_row)

      -- and gives it back as packet k
      pub solved-alone : solved w (with_row s (Some alone_row) (no_rows w)) k ≡ Some p
      unfolding alone_row
      solved-alone =
          ap (λ (i : ℕ). packet_in w i (row_at (with_row s (Some alone_row) (no_rows w)) i)) place
          ∙ ap (packet_in w s) (get_or-set_same (replicate w None) s (Some alone_row) None (rw length-replicate inside))
          ∙ cond-true (unit_at w s alone_row) (Some p) None unit
