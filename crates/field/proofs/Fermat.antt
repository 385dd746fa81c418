-- The power 255 of a residue, by eight squarings.
use Rattle.std.proofs.Common.{◌≡◌, ℕ, zero, suc, ◌%◌, ◌^◌, ◌<◌, eqb, Some, None, sym, ap, ◌∙◌, mod-lt, arith, lit<, eqb→eq}
use Rattle.std.proofs.lemmas.Bool.{cond-false, ne_eqb}
use Rattle.field.specs.Field.{times, inverse}
use Rattle.field.specs.OfResidues.{residues}
use Rattle.field.specs.Upto.{upto-at}

-- a, squared k times
abbrev pub square_at : ℕ → ℕ → ℕ
square_at a zero = a
square_at a (suc k) = times residues (square_at a k) (square_at a k)

-- the first k of those squares, multiplied
abbrev pub power_at : ℕ → ℕ → ℕ
power_at a zero = 1
power_at a (suc k) = times residues (power_at a k) (square_at a k)

power_is : (a : ℕ) → a < 257 → power_at a 8 ≡ a ^ 255 % 257
power_is a h = eqb→eq _ _ (upto-at 257 (λ a. eqb (power_at a 8) (a ^ 255 % 257)) tt a h)

pub inverse-is : (a t p : ℕ) → 0 < a % 257 → t ≡ 8 → p ≡ power_at (a % 257) t → Some p ≡ inverse residues a
inverse-is a t p pos e h =
    ap Some (h ∙ ap (power_at (a % 257)) e ∙ power_is (a % 257) (mod-lt a (lit< tt)))
    ∙ sym (cond-false (eqb (a % 257) 0) None (Some ((a % 257) ^ 255 % 257)) (ne_eqb (a % 257) 0 (λ z. omega arith)))
