-- The codes of a field as a type of its own, the field over it, and what the operations on numbers are there: each
-- number counts as its remainder.
use Rattle.std.proofs.Common.{◌≡◌, ℕ, zero, suc, ◌%◌, ◌<◌, Bool, true, false, cond, eqb, ◌≢◌, Some, None, Option, sym, refl, ap, ◌∙◌, ap₂, mod-lt, mod-eq_of_lt, arith}
use mathlib.Core.HLevel.{Σ_prop_path}
use native.Mathlib.Bridge.{le_prop}
use native.Mathlib.Decide.{ℕ_discrete}
use native.Mathlib.Nat.{mod-mod}
use Rattle.std.proofs.lemmas.Bool.{eqb-true}
use Rattle.field.specs.Field.{Means, Laws, plus, minus, times, inverse}
use Rattle.algebra.specs.Streams.{sum}
use Rattle.algebra.proofs.Scalars.{Scalars, add_cancel, add_neg-left, neg-mul}
use Rattle.algebra.proofs.Sums.{total}

-- a number below q
abbrev pub Code : Means → Type 0
Code m = (a : ℕ) × (a < m.q)

pub code_path : (m : Means) {a b : Code m} → a.0 ≡ b.0 → a ≡ b
code_path m {a} {b} e = Σ_prop_path (λ (x : ℕ). le_prop {n = suc x} {m = m.q}) {u = a} {v = b} e

-- the inverse lacks at 0 alone
no_inverse : (m : Means) (a : ℕ) → inverse m a ≡ None → a % m.q ≡ 0
no_inverse m a e = eqb-true (a % m.q) 0 (go (eqb (a % m.q) 0) e)
  where
    go : (b : Bool) → cond b None (Some (m.inv (a % m.q))) ≡ None → b ≡ true
    go true _ = refl
    go false z = absurd (let x : ◌≡◌ {A = ℕ} 0 1 = cc in omega arith)

pub has_inverse : (m : Means) (a : ℕ) → a % m.q ≢ 0 → (i : ℕ) × (inverse m a ≡ Some i)
has_inverse m a ne = go (inverse m a) refl
  where
    go : (o : Option ℕ) → inverse m a ≡ o → (i : ℕ) × (inverse m a ≡ Some i)
    go None e = absurd (ne (no_inverse m a e))
    go (Some i) e = (i, e)

module _ (m : Means) (laws : Laws m) where
  pub q_pos : 0 < m.q
  q_pos = let h = laws.least in omega arith

  -- a number counts as its remainder
  abbrev pub code : ℕ → Code m
  code a = (a % m.q, mod-lt a q_pos)

  pub code_value : (a : ℕ) → a < m.q → (code a).0 ≡ a
  code_value a h = mod-eq_of_lt h

  inverted : (a : Code m) (o : Option ℕ) → inverse m a.0 ≡ o → Code m
  inverted a None _ = a
  inverted a (Some i) e = (i, laws.inverse_code a.0 i e)

  inverted_right : (a : Code m) → a.0 ≢ 0 → (o : Option ℕ) (e : inverse m a.0 ≡ o) → times m a.0 (inverted a o e).0 ≡ 1
  unfolding inverted
  inverted_right a ne None e = absurd (ne (sym (code_value a.0 a.1) ∙ no_inverse m a.0 e))
  inverted_right a ne (Some i) e = laws.times_inverse a.0 i e

  -- the field
  pub scalars : Scalars (Code m)
  scalars = record {
    𝟘 = (0, q_pos);
    𝟙 = (1, laws.least);
    ◌⊞◌ = λ a b. (plus m a.0 b.0, laws.plus_code a.0 b.0);
    ◌⊡◌ = λ a b. (times m a.0 b.0, laws.times_code a.0 b.0);
    neg = λ a. (minus m 0 a.0, laws.minus_code 0 a.0);
    inv = λ a. inverted a (inverse m a.0) refl;
    add_assoc = λ a b c. code_path m (laws.plus_assoc a.0 b.0 c.0);
    add_comm = λ a b. code_path m (laws.plus_comm a.0 b.0);
    add_zero = λ a. code_path m (laws.plus_zero a.0 a.1);
    add_neg = λ a. code_path m (laws.plus_comm a.0 (minus m 0 a.0) ∙ laws.minus_plus 0 a.0 q_pos);
    mul_assoc = λ a b c. code_path m (laws.times_assoc a.0 b.0 c.0);
    mul_comm = λ a b. code_path m (laws.times_comm a.0 b.0);
    mul_one = λ a. code_path m (laws.times_one a.0 a.1);
    mul_add = λ a b c. code_path m (laws.times_plus a.0 b.0 c.0);
    mul_inv = λ a ne. code_path m (inverted_right a (λ e. ne (code_path m e)) (inverse m a.0) refl);
    one_not_zero = λ e. differ (ap (λ x. x.0) e);
  }
    where
      differ : ◌≡◌ {A = ℕ} 1 0 → ⊥
      differ e = omega arith

  infixl 60 ◌⊞◌
  infixl 70 ◌⊡◌
  open scalars use {𝟘, 𝟙, ◌⊞◌, ◌⊡◌, neg}

  pub code_zero : code 0 ≡ 𝟘
  unfolding scalars
  code_zero = code_path m (code_value 0 q_pos)

  pub code_one : code 1 ≡ 𝟙
  unfolding scalars
  code_one = code_path m (code_value 1 laws.least)

  pub code_back : (x : Code m) → code x.0 ≡ x
  code_back x = code_path m (code_value x.0 x.1)

  -- codes that are one code are one number
  pub code_same : {a b : ℕ} → a < m.q → b < m.q → code a ≡ code b → a ≡ b
  code_same {a} {b} h l e = sym (code_value a h) ∙ ap (λ x. x.0) e ∙ code_value b l

  pub zero_value : (a : ℕ) → code a ≡ 𝟘 → a % m.q ≡ 0
  unfolding scalars
  zero_value a e = ap (λ x. x.0) e

  pub zero? : (x : Code m) → Dec (x ≡ 𝟘)
  unfolding scalars
  zero? x = go (ℕ_discrete x.0 0)
    where
      go : Dec (x.0 ≡ 0) → Dec (x ≡ 𝟘)
      go (yes e) = yes (code_path m e)
      go (no ne) = no (λ e. ne (ap (λ y. y.0) e))

  pub code-plus : (a b : ℕ) → code (plus m a b) ≡ code a ⊞ code b
  unfolding scalars
  code-plus a b = code_path m (mod-eq_of_lt (laws.plus_code a b) ∙ ap₂ m.add (sym (mod-mod a m.q)) (sym (mod-mod b m.q)))

  pub code-times : (a b : ℕ) → code (times m a b) ≡ code a ⊡ code b
  unfolding scalars
  code-times a b = code_path m (mod-eq_of_lt (laws.times_code a b) ∙ ap₂ m.mul (sym (mod-mod a m.q)) (sym (mod-mod b m.q)))

  code-minus : (a b : ℕ) → code (minus m a b) ≡ code a ⊞ neg (code b)
  code-minus a b =
      add_cancel scalars (code (minus m a b)) (code a ⊞ neg (code b)) (code b)
      (sym (code-plus (minus m a b) b) ∙ code_path m back ∙ sym (add_neg-left scalars (code a) (code b)))
    where
      rest : minus m a b ≡ minus m (a % m.q) b
      rest = ap (λ x. m.sub x (b % m.q)) (sym (mod-mod a m.q))

      back : plus m (minus m a b) b % m.q ≡ a % m.q
      back = ap (λ x. plus m x b % m.q) rest ∙ ap (λ x. x % m.q) (laws.minus_plus (a % m.q) b (mod-lt a q_pos)) ∙ mod-mod a m.q

  -- a number less a multiple of another
  pub code-less : (a c b : ℕ) → code (minus m a (times m c b)) ≡ code a ⊞ neg (code c) ⊡ code b
  code-less a c b =
      code-minus a (times m c b) ∙ ap (λ x. code a ⊞ neg x) (code-times c b) ∙ ap (λ x. code a ⊞ x) (sym (neg-mul scalars (code c) (code b)))

  pub code_sum : (n : ℕ) (f : ℕ → ℕ) → code (sum m n f) ≡ total scalars n (λ k. code (f k))
  unfolding sum total
  code_sum zero f = code_zero
  code_sum (suc n) f = code-plus (sum m n f) (f n) ∙ ap (λ x. x ⊞ code (f n)) (code_sum n f)

  pub sum-code : (n : ℕ) (f : ℕ → ℕ) → sum m n f < m.q
  unfolding sum
  sum-code zero f = q_pos
  sum-code (suc n) f = laws.plus_code (sum m n f) (f n)
