-- Lines: slots in a ring and a payload, as lists of numbers. What is done to lines is done to their equations.
use Rattle.std.proofs.Common.{◌≡◌, ℕ, ◌+◌, ◌%◌, ◌<◌, ◌≤◌, ◌⊎◌, List, length, get_or, sym, refl, ap, ◌∙◌, ap₂, inl, inr, mod-lt, arith}
use Rattle.field.specs.Field.{Means, Laws, minus, times}
use Rattle.algebra.specs.Frames.{Codes}
use Rattle.algebra.proofs.Scalars.{mul_zero}
use Rattle.algebra.proofs.Equations.{Equation, less, multiplied, equation_path}
use Rattle.algebra.proofs.Codes.{Code, code, code-times, code-less, scalars}
use Rattle.algebra.proofs.Words.{Place}
use Rattle.algebra.proofs.Ring.{Side, side, inside, inside_in, inside_out}
use Rattle.algebra.proofs.Setting.{Setting, field}

-- zs is xs less c times ys, and zs is c times xs, number by number
pub record Lessened (m : Means) (c : ℕ) (xs ys zs : List ℕ) : Type 0 where
  pub long : length zs ≡ length xs
  pub each : (i : ℕ) → i < length xs → get_or zs i 0 ≡ minus m (get_or xs i 0) (times m c (get_or ys i 0))

pub record Scaled (m : Means) (c : ℕ) (xs zs : List ℕ) : Type 0 where
  pub long : length zs ≡ length xs
  pub each : (i : ℕ) → i < length xs → get_or zs i 0 ≡ times m c (get_or xs i 0)

module _ (m : Means) (laws : Laws m) (size c : ℕ) (xs : List ℕ) (h : Codes m.q size xs) where
  pub lessened_codes : (ys zs : List ℕ) → Lessened m c xs ys zs → Codes m.q size zs
  lessened_codes ys zs l = record {
    long = l.long ∙ h.long;
    codes = λ i b. let e = l.each i (omega (arith, h.long)) in let z = laws.minus_code (get_or xs i 0) (times m c (get_or ys i 0)) in omega arith;
  }

  pub scaled-codes : (zs : List ℕ) → Scaled m c xs zs → Codes m.q size zs
  scaled-codes zs l = record {
    long = l.long ∙ h.long;
    codes = λ i b. let e = l.each i (omega (arith, h.long)) in let z = laws.times_code c (get_or xs i 0) in omega arith;
  }

  infixl 60 ◌⊞◌
  infixl 70 ◌⊡◌
  open scalars m laws use {◌⊞◌, ◌⊡◌, neg}

  less-at : (ys zs : List ℕ) → Lessened m c xs ys zs → (i : ℕ) → i < size
      → code m laws (get_or zs i 0) ≡ code m laws (get_or xs i 0) ⊞ neg (code m laws c) ⊡ code m laws (get_or ys i 0)
  less-at ys zs l i b = ap (code m laws) (l.each i (omega (arith, h.long))) ∙ code-less m laws (get_or xs i 0) c (get_or ys i 0)

  scaled_at : (zs : List ℕ) → Scaled m c xs zs → (i : ℕ) → i < size → code m laws (get_or zs i 0) ≡ code m laws c ⊡ code m laws (get_or xs i 0)
  scaled_at zs l i b = ap (code m laws) (l.each i (omega (arith, h.long))) ∙ code-times m laws c (get_or xs i 0)

module _ {Row : Type 0} (S : Setting Row) where
  open S use {w, size, w_pos, m, laws}

  infixl 60 ◌⊞◌
  infixl 70 ◌⊡◌
  open field S use {𝟘, ◌⊞◌, ◌⊡◌, neg, add_zero}

  -- the equation of a line: slots for the w numbers from r on, 0 elsewhere
  pub line : ℕ → List ℕ → List ℕ → Equation (Code m) (Place size)
  line r xs ps = record {
    row = λ k. inside w r k (code m laws (get_or xs (k % w) 0)) 𝟘;
    pay = λ i. code m laws (get_or ps i.0 0);
  }

  module _ (r : ℕ) (xs ps : List ℕ) where
    pub line_in : (k : ℕ) → r ≤ k → k < r + w → (line r xs ps).row k ≡ code m laws (get_or xs (k % w) 0)
    unfolding line
    line_in k l h = inside_in w r k (code m laws (get_or xs (k % w) 0)) 𝟘 l h

    pub line-out : (k : ℕ) → (k < r) ⊎ (r + w ≤ k) → (line r xs ps).row k ≡ 𝟘
    unfolding line
    line-out k o = inside_out w r k (code m laws (get_or xs (k % w) 0)) 𝟘 o

    pub line-pay : (i : Place size) → (line r xs ps).pay i ≡ code m laws (get_or ps i.0 0)
    unfolding line
    line-pay i = refl

  module _ (c r : ℕ) (xs ps : List ℕ) (hx : Codes m.q w xs) (hp : Codes m.q size ps) where
    -- a line less a multiple of another
    pub lessened_line : (ys qs zs os : List ℕ) → Lessened m c xs ys zs → Lessened m c ps qs os
        → line r zs os ≡ less (field S) (line r xs ps) (code m laws c) (line r ys qs)
    lessened_line ys qs zs os l h =
        equation_path (field S) (line r zs os) (less (field S) (line r xs ps) (code m laws c) (line r ys qs))
        (λ k. row k (side w r k))
        (λ i. line-pay r zs os i ∙ less-at m laws size c ps hp qs os h i.0 i.1 ∙ sym (ap₂ (λ u v. u ⊞ neg (code m laws c) ⊡ v) (line-pay r xs ps i) (line-pay r ys qs i)))
      where
        row : (k : ℕ) → Side w r k → (line r zs os).row k ≡ (line r xs ps).row k ⊞ neg (code m laws c) ⊡ (line r ys qs).row k
        row k (inl (a, b)) =
            line_in r zs os k a b ∙ less-at m laws w c xs hx ys zs l (k % w) (mod-lt k w_pos)
            ∙ sym (ap₂ (λ u v. u ⊞ neg (code m laws c) ⊡ v) (line_in r xs ps k a b) (line_in r ys qs k a b))
        row k (inr o) =
            line-out r zs os k o
            ∙ sym (ap₂ (λ u v. u ⊞ neg (code m laws c) ⊡ v) (line-out r xs ps k o) (line-out r ys qs k o)
            ∙ ap (λ v. 𝟘 ⊞ v) (mul_zero (field S) (neg (code m laws c))) ∙ add_zero 𝟘)

    -- a line's multiple
    pub scaled-line : (zs os : List ℕ) → Scaled m c xs zs → Scaled m c ps os
        → line r zs os ≡ multiplied (field S) (code m laws c) (line r xs ps)
    scaled-line zs os l h =
        equation_path (field S) (line r zs os) (multiplied (field S) (code m laws c) (line r xs ps))
        (λ k. row k (side w r k))
        (λ i. line-pay r zs os i ∙ scaled_at m laws size c ps hp os h i.0 i.1 ∙ ap (λ u. code m laws c ⊡ u) (sym (line-pay r xs ps i)))
      where
        row : (k : ℕ) → Side w r k → (line r zs os).row k ≡ code m laws c ⊡ (line r xs ps).row k
        row k (inl (a, b)) =
            line_in r zs os k a b ∙ scaled_at m laws w c xs hx zs l (k % w) (mod-lt k w_pos) ∙ ap (λ u. code m laws c ⊡ u) (sym (line_in r xs ps k a b))
        row k (inr o) =
            line-out r zs os k o ∙ sym (ap (λ u. code m laws c ⊡ u) (line-out r xs ps k o) ∙ mul_zero (field S) (code m laws c))
