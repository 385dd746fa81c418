-- What a source of coefficients is, its laws, and what a draw from it answers and leaves. The number of slots is w.
use Rattle.std.specs.Prelude.{◌≡◌, ℕ, zero, suc, ◌<◌, ◌≤◌, Bool, cond, ◌&&◌, List, [], ◌∷◌, map, length, Ok, Err, Result, ◌==◌, nat_le, slice_index}
use Rattle.field.specs.Field.{Means, Laws}
use Rattle.refusal.specs.declared.Refusal.{Refusal}
use Rattle.refusal.specs.declared.Refusal.TheVariants.{BadDraw}
use Rattle.algebra.specs.Combinations.{Independent}

-- the slots drawn and the state after the draw, of the state before it, the order q and the width n
pub record Draws (S : Type 0) : Type 0 where
  pub slots : S → ℕ → ℕ → List ℕ
  pub next : S → ℕ → ℕ → S

-- the slots of each of k draws in a row
unfoldable pub run : {S : Type 0} → Draws S → S → ℕ → ℕ → ℕ → List (List ℕ)
run d x q n zero = []
run d x q n (suc k) = d.slots x q n ∷ run d (d.next x q n) q n k

-- the row of some slots: coefficient i is slot i, and past the slots it is 0
abbrev pub row : List ℕ → ℕ → ℕ
row slots i = slice_index slots i

-- what every source shows, from every state, of draws at an order of 2 or more and a width from 1 to w
pub record DrawsLaws {S : Type 0} (w : ℕ) (d : Draws S) : Type 0 where
  -- a draw fills all slots
  pub long : (x : S) (q n : ℕ) → 2 ≤ q → 1 ≤ n → n ≤ w → length (d.slots x q n) ≡ w
  -- with codes of the order
  pub codes : (x : S) (q n : ℕ) → 2 ≤ q → 1 ≤ n → n ≤ w → (i : ℕ) → slice_index (d.slots x q n) i < q
  -- and only the first n of them
  pub within : (x : S) (q n : ℕ) → 2 ≤ q → 1 ≤ n → n ≤ w → (i : ℕ) → n ≤ i → slice_index (d.slots x q n) i ≡ 0
  -- n draws in a row at width n are independent in every field
  pub independent : (m : Means) → Laws m → (x : S) (n : ℕ) → 1 ≤ n → n ≤ w → Independent m (map row (run d x m.q n n))

-- the answer, the state and the slots that a call leaves
pub record Drawn (S : Type 0) : Type 0 where
  pub answer : Result (Unit {0}) Refusal
  pub state : S
  pub slots : List ℕ

-- a draw is allowed at an order of 2 or more, a width from 1 to w, and into w slots
abbrev pub allowed : ℕ → ℕ → ℕ → List ℕ → Bool
allowed w q n slots = nat_le 2 q && (nat_le 1 n && (nat_le n w && length slots == w))

-- a draw that is not allowed changes nothing
abbrev pub drawn : {S : Type 0} → ℕ → Draws S → S → ℕ → ℕ → List ℕ → Drawn S
drawn w d x q n slots =
    cond (allowed w q n slots)
    (record { answer = Ok tt; state = d.next x q n; slots = d.slots x q n })
    (record { answer = Err BadDraw; state = x; slots = slots })
