-- Queues, as lists of what waits in them, the first one first.
use Rattle.std.specs.Prelude.{ℕ, cond, List, [], ◌∷◌, ◌++◌, length, Some, None, Option, nat_le, nat_lt}

-- x joins a queue with room for size; where it is full, x is lost
abbrev pub joined : {X : Type 0} → ℕ → List X → X → List X
joined size xs x = cond (nat_lt (length xs) size) (xs ++ x ∷ []) xs

-- some join it, one after another
abbrev pub joined_by : {X : Type 0} → ℕ → List X → List X → List X
joined_by size xs [] = xs
joined_by size xs (y ∷ ys) = joined_by size (joined size xs y) ys

-- the one that leaves it next
abbrev pub first_of : {X : Type 0} → List X → Option X
first_of [] = None
first_of (x ∷ xs) = Some x

-- a frame, unless it is longer than the limit
abbrev pub short : ℕ → List ℕ → Option (List ℕ)
short limit f = cond (nat_le (length f) limit) (Some f) None
