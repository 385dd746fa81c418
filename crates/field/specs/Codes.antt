-- The laws of a field, asked of its codes alone: what a field is proved by.
use Rattle.std.specs.Prelude.{◌≡◌, ℕ, ◌<◌, ◌≤◌}
use Rattle.field.specs.Field.{Means}

pub record OnCodes (m : Means) : Type 0 where
  pub two : 2 ≤ m.q
  pub most : m.q ≤ 65535
  pub add_below : (a b : ℕ) → a < m.q → b < m.q → m.add a b < m.q
  pub sub_below : (a b : ℕ) → a < m.q → b < m.q → m.sub a b < m.q
  pub mul_below : (a b : ℕ) → a < m.q → b < m.q → m.mul a b < m.q
  pub inv_below : (a : ℕ) → 0 < a → a < m.q → m.inv a < m.q
  pub add_comm : (a b : ℕ) → a < m.q → b < m.q → m.add a b ≡ m.add b a
  pub add_assoc : (a b c : ℕ) → a < m.q → b < m.q → c < m.q → m.add (m.add a b) c ≡ m.add a (m.add b c)
  pub mul_comm : (a b : ℕ) → a < m.q → b < m.q → m.mul a b ≡ m.mul b a
  pub mul_assoc : (a b c : ℕ) → a < m.q → b < m.q → c < m.q → m.mul (m.mul a b) c ≡ m.mul a (m.mul b c)
  pub mul_add : (a b c : ℕ) → a < m.q → b < m.q → c < m.q → m.mul a (m.add b c) ≡ m.add (m.mul a b) (m.mul a c)
  pub add_zero : (a : ℕ) → a < m.q → m.add a 0 ≡ a
  pub mul_one : (a : ℕ) → a < m.q → m.mul a 1 ≡ a
  pub sub_add : (a b : ℕ) → a < m.q → b < m.q → m.add (m.sub a b) b ≡ a
  pub mul_inv : (a : ℕ) → 0 < a → a < m.q → m.mul a (m.inv a) ≡ 1
