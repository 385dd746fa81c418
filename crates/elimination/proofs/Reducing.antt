-- A row that a reduced table has reduced is 0 wherever a row of the table begins.
use Rattle.std.proofs.Common.{◌≡◌, ℕ, zero, suc, ◌<◌, ◌≤◌, get_or, Some, None, Option, sym, refl, ◌∙◌, subst, ⊎_elim, arith}
use Rattle.std.proofs.lemmas.Bool.{cases_eq}
use Rattle.field.specs.Field.{Means, Laws}
use Rattle.elimination.proofs.Clearing.{cleared-coded, cleared-here, cleared_other}
use Rattle.elimination.specs.Loops.{turns}
use Rattle.elimination.specs.Reduced.{Coded, Reduced}
use Rattle.elimination.specs.Tables.{row_at, cleared, reduced_by, reduced}
use Rattle.elimination.specs.declared.row.Row.{Row}
use Rattle.elimination.specs.declared.table.Table.{Table}

-- after n turns: 0 at each place below n where the table has a row
record Cleared (m : Means) (w : ℕ) (t : Table) (n : ℕ) (x : Row) : Type 0 where
  coded : Coded m w x
  nil : (i : ℕ) (y : Row) → i < n → row_at t i ≡ Some y → get_or x.slots i 0 ≡ 0

module _ (m : Means) (laws : Laws m) (w start : ℕ) (t : Table) (red : Reduced m w start t) where
  turn : (n : ℕ) (x : Row) (o : Option Row) → n < w → row_at t n ≡ o → Cleared m w t n x → Cleared m w t (suc n) (reduced_by m n o x)
  turn n x None h e c = record {
    coded = c.coded;
    nil = λ i y l f. ⊎_elim
        (λ q. let z : ◌≡◌ {A = ℕ} 0 1 = cc (subst (λ k. row_at t k ≡ Some y) q f, e) in absurd (omega arith))
        (λ ne. c.nil i y (omega arith) f) (cases_eq i n);
  }
  turn n x (Some z) h e c = record {
    coded = cleared-coded m laws w x z c.coded n;
    nil = λ i y l f. ⊎_elim
        (λ q. subst (λ k. get_or (cleared m n z x).slots k 0 ≡ 0) (sym q) (cleared-here m laws w x z c.coded n h (red.one n z e)))
        (λ ne. cleared_other m laws w x z c.coded n i (omega arith) (red.apart i n y z ne f e) ∙ c.nil i y (omega arith) f) (cases_eq i n);
  }

  all-turns : (x : Row) → Coded m w x → (n : ℕ) → n ≤ w → Cleared m w t n (turns (λ i. reduced_by m i (row_at t i)) x n)
  unfolding turns
  all-turns x cx zero h = record { coded = cx; nil = λ i y l f. absurd (omega arith) }
  all-turns x cx (suc n) h = turn n (turns (λ i. reduced_by m i (row_at t i)) x n) (row_at t n) (omega arith) refl (all-turns x cx n (omega arith))

  pub reduced_zero : (x : Row) → Coded m w x → (i : ℕ) (y : Row) → i < w → row_at t i ≡ Some y → get_or (reduced m w t x).slots i 0 ≡ 0
  reduced_zero x cx i y h f = (all-turns x cx w (omega arith)).nil i y h f

  pub reduced-coded : (x : Row) → Coded m w x → Coded m w (reduced m w t x)
  reduced-coded x cx = (all-turns x cx w (omega arith)).coded
