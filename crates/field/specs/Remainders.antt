-- What holds of codes holds of any numbers, which count as their remainders.
use Rattle.std.specs.Prelude.{◌≡◌, ℕ, ◌%◌, ◌<◌, Bool, true, false, cond, Some, None, ◌==◌, refl}
use Rattle.std.proofs.Common.{sym, ap, ◌∙◌, mod-lt, mod-eq_of_lt, arith}
use Rattle.std.proofs.lemmas.Bool.{eqb-false}
use Rattle.field.specs.Field.{Means, Laws, plus, minus, times, inverse}
use Rattle.field.specs.Codes.{OnCodes}

module _ {m : Means} (laws : OnCodes m) where
  pub q_pos : 0 < m.q
  q_pos = omega (arith, laws.two)

  pub code : (a : ℕ) → a % m.q < m.q
  code a = mod-lt a q_pos

  pub code_is : (a : ℕ) → a < m.q → a % m.q ≡ a
  code_is a h = mod-eq_of_lt h

  pub plus-below : (a b : ℕ) → plus m a b < m.q
  plus-below a b = laws.add_below _ _ (code a) (code b)

  pub minus-below : (a b : ℕ) → minus m a b < m.q
  minus-below a b = laws.sub_below _ _ (code a) (code b)

  pub times_below : (a b : ℕ) → times m a b < m.q
  times_below a b = laws.mul_below _ _ (code a) (code b)

  pub plus_comm : (a b : ℕ) → plus m a b ≡ plus m b a
  plus_comm a b = laws.add_comm _ _ (code a) (code b)

  pub times_comm : (a b : ℕ) → times m a b ≡ times m b a
  times_comm a b = laws.mul_comm _ _ (code a) (code b)

  pub plus_assoc : (a b c : ℕ) → plus m (plus m a b) c ≡ plus m a (plus m b c)
  plus_assoc a b c =
      ap (λ (x : ℕ). m.add x (c % m.q)) (code_is _ (plus-below a b))
      ∙ laws.add_assoc _ _ _ (code a) (code b) (code c)
      ∙ ap (λ (x : ℕ). m.add (a % m.q) x) (sym (code_is _ (plus-below b c)))

  pub times_assoc : (a b c : ℕ) → times m (times m a b) c ≡ times m a (times m b c)
  times_assoc a b c =
      ap (λ (x : ℕ). m.mul x (c % m.q)) (code_is _ (times_below a b))
      ∙ laws.mul_assoc _ _ _ (code a) (code b) (code c)
      ∙ ap (λ (x : ℕ). m.mul (a % m.q) x) (sym (code_is _ (times_below b c)))

  pub times_plus : (a b c : ℕ) → times m a (plus m b c) ≡ plus m (times m a b) (times m a c)
  times_plus a b c =
      ap (λ (x : ℕ). m.mul (a % m.q) x) (code_is _ (plus-below b c))
      ∙ laws.mul_add _ _ _ (code a) (code b) (code c)
      ∙ ap (λ (x : ℕ). m.add x (m.mul (a % m.q) (c % m.q))) (sym (code_is _ (times_below a b)))
      ∙ ap (λ (x : ℕ). m.add (times m a b % m.q) x) (sym (code_is _ (times_below a c)))

  pub minus_plus : (a b : ℕ) → plus m (minus m a b) b ≡ a % m.q
  minus_plus a b =
      ap (λ (x : ℕ). m.add x (b % m.q)) (code_is _ (minus-below a b))
      ∙ laws.sub_add _ _ (code a) (code b)

  pub plus_zero : (a : ℕ) → a < m.q → plus m a 0 ≡ a
  plus_zero a h =
      ap (λ (x : ℕ). m.add (a % m.q) x) (code_is 0 q_pos) ∙ ap (λ (x : ℕ). m.add x 0) (code_is a h) ∙ laws.add_zero a h

  pub times_one : (a : ℕ) → a < m.q → times m a 1 ≡ a
  times_one a h =
      ap (λ (x : ℕ). m.mul (a % m.q) x) (code_is 1 (omega (arith, laws.two))) ∙ ap (λ (x : ℕ). m.mul x 1) (code_is a h) ∙ laws.mul_one a h

  -- the inverse that is there is the one of a code other than 0
  some : (b : Bool) (i j : ℕ) → cond b None (Some j) ≡ Some i → (b ≡ false) × (j ≡ i)
  some true i j e = absurd (let z : ◌≡◌ {A = ℕ} 0 1 = cc in omega arith)
  some false i j e = (refl, cc)

  inv_of : (a i : ℕ) → inverse m a ≡ Some i → (0 < a % m.q) × (m.inv (a % m.q) ≡ i)
  inv_of a i e =
      let parts = some (a % m.q == 0) i (m.inv (a % m.q)) e in
      let ne = eqb-false (a % m.q) 0 parts.0 in
      (let p : 0 < a % m.q = omega (arith, ne) in p, parts.1)

  pub inverse_code : (a i : ℕ) → inverse m a ≡ Some i → i < m.q
  inverse_code a i e =
      let v = inv_of a i e in
      rw v.1 at (laws.inv_below (a % m.q) v.0 (code a))

  pub times_inverse : (a i : ℕ) → inverse m a ≡ Some i → times m a i ≡ 1
  times_inverse a i e =
      let v = inv_of a i e in
      ap (λ (x : ℕ). m.mul (a % m.q) x) (code_is i (inverse_code a i e) ∙ sym v.1) ∙ laws.mul_inv (a % m.q) v.0 (code a)

  pub all_laws : Laws m
  all_laws = record {
    least = laws.two;
    most = laws.most;
    plus_code = plus-below;
    minus_code = minus-below;
    times_code = times_below;
    plus_comm = plus_comm;
    plus_assoc = plus_assoc;
    plus_zero = plus_zero;
    times_comm = times_comm;
    times_assoc = times_assoc;
    times_one = times_one;
    times_plus = times_plus;
    minus_plus = λ a b h. minus_plus a b ∙ code_is a h;
    inverse_code = inverse_code;
    times_inverse = times_inverse;
  }
