-- What a field is: its order q, its operations on codes, which are the numbers below q, and its laws.
use Rattle.std.specs.Prelude.{◌≡◌, ℕ, ◌%◌, ◌<◌, ◌≤◌, cond, Some, None, Option, ◌==◌}

-- the order and the operations; what they say of numbers that are no codes, and what inv says of 0, is never used
pub record Means : Type 0 where
  pub q : ℕ
  pub add : ℕ → ℕ → ℕ
  pub sub : ℕ → ℕ → ℕ
  pub mul : ℕ → ℕ → ℕ
  pub inv : ℕ → ℕ

-- the sum of any two numbers, each counting as its remainder by q
abbrev pub plus : Means → ℕ → ℕ → ℕ
plus m a b = m.add (a % m.q) (b % m.q)

-- their difference
abbrev pub minus : Means → ℕ → ℕ → ℕ
minus m a b = m.sub (a % m.q) (b % m.q)

-- their product
abbrev pub times : Means → ℕ → ℕ → ℕ
times m a b = m.mul (a % m.q) (b % m.q)

-- the inverse of any number that does not count as 0
abbrev pub inverse : Means → ℕ → Option ℕ
inverse m a = cond (a % m.q == 0) None (Some (m.inv (a % m.q)))

-- what every field shows, of all numbers
pub record Laws (m : Means) : Type 0 where
  pub least : 2 ≤ m.q
  pub most : m.q ≤ 65535
  pub plus_code : (a b : ℕ) → plus m a b < m.q
  pub minus_code : (a b : ℕ) → minus m a b < m.q
  pub times_code : (a b : ℕ) → times m a b < m.q
  pub inverse_code : (a i : ℕ) → inverse m a ≡ Some i → i < m.q
  pub plus_comm : (a b : ℕ) → plus m a b ≡ plus m b a
  pub plus_assoc : (a b c : ℕ) → plus m (plus m a b) c ≡ plus m a (plus m b c)
  pub plus_zero : (a : ℕ) → a < m.q → plus m a 0 ≡ a
  pub times_comm : (a b : ℕ) → times m a b ≡ times m b a
  pub times_assoc : (a b c : ℕ) → times m (times m a b) c ≡ times m a (times m b c)
  pub times_one : (a : ℕ) → a < m.q → times m a 1 ≡ a
  pub times_plus : (a b c : ℕ) → times m a (plus m b c) ≡ plus m (times m a b) (times m a c)
  pub minus_plus : (a b : ℕ) → a < m.q → plus m (minus m a b) b ≡ a
  pub times_inverse : (a i : ℕ) → inverse m a ≡ Some i → times m a i ≡ 1
