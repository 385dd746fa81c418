-- What a link is, its laws, and what a take answers and leaves. A frame is a list of bytes, at most limit of them.
use Rattle.std.specs.Prelude.{◌≡◌, ℕ, ◌≤◌, cond, ◌⊎◌, List, ◌++◌, length, drop, Some, None, Ok, Err, Option, Result, nat_lt}
use mathlib.Core.List.{Memᴰ}
use Rattle.refusal.specs.declared.Refusal.{Refusal}
use Rattle.refusal.specs.declared.Refusal.TheVariants.{ShortBuffer}

-- the frames that wait in a state, the state after a frame is put, the frame that a take answers, and the state after it
pub record Carries (S : Type 0) : Type 0 where
  pub waiting : S → List (List ℕ)
  pub put : S → List ℕ → S
  pub first : S → Option (List ℕ)
  pub rest : S → S

-- what every link shows, from every state: it makes up no frame
pub record CarriesLaws {S : Type 0} (limit : ℕ) (c : Carries S) : Type 0 where
  -- what waits after a put waited before, or is the frame put
  pub puts : (x : S) (f g : List ℕ) → Memᴰ g (c.waiting (c.put x f)) → Memᴰ g (c.waiting x) ⊎ (g ≡ f)
  -- what a take answers waited
  pub takes : (x : S) (g : List ℕ) → c.first x ≡ Some g → Memᴰ g (c.waiting x)
  -- what waits after a take waited before
  pub leaves : (x : S) (g : List ℕ) → Memᴰ g (c.waiting (c.rest x)) → Memᴰ g (c.waiting x)
  -- no frame that waits is longer than the limit
  pub short : (x : S) (g : List ℕ) → Memᴰ g (c.waiting x) → length g ≤ limit

-- the answer, the state and the buffer that a take leaves
pub record Taken (S : Type 0) : Type 0 where
  pub answer : Result (Option ℕ) Refusal
  pub state : S
  pub buffer : List ℕ

-- a frame is handed over at the buffer's start, by its length
abbrev pub handed : {S : Type 0} → S → List ℕ → Option (List ℕ) → Taken S
handed rest buffer None = record { answer = Ok None; state = rest; buffer = buffer }
handed rest buffer (Some f) = record { answer = Ok (Some (length f)); state = rest; buffer = f ++ drop (length f) buffer }

-- a take from the state x: a buffer below the limit is refused, and nothing changes
abbrev pub taken : {S : Type 0} → ℕ → Carries S → S → List ℕ → Taken S
taken limit c x buffer =
    cond (nat_lt (length buffer) limit)
    (record { answer = Err ShortBuffer; state = x; buffer = buffer })
    (handed (c.rest x) buffer (c.first x))
