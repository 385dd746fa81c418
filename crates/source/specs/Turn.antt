-- Whose turn it is: the place of a source, which moves on by 1 with each draw, modulo the width.
use Rattle.std.specs.Prelude.{ℕ, ◌+◌, ◌%◌, cond, List, map, ◌==◌, nat_lt}
use Rattle.std.specs.List.{range_with_len}
use Rattle.source.specs.declared.turn.Turn.{Turn}

-- before the first draw
abbrev pub start : Turn
start = record { place = 0; width = 0 }

-- the place of a draw at width n, which is 0 where the last width was another
abbrev pub place_at : Turn → ℕ → ℕ
place_at t n = cond (t.width == n) (t.place % n) 0

-- the turn after that draw
abbrev pub moved : Turn → ℕ → Turn
moved t n = record { place = (place_at t n + 1) % n; width = n }

-- slot i where the place is p: 1 at the place, a number of f below it, and 0 above
abbrev pub slot : ℕ → (ℕ → ℕ) → ℕ → ℕ
slot p f i = cond (nat_lt i p) (f i) (cond (i == p) 1 0)

-- w such slots
unfoldable pub ending : ℕ → ℕ → (ℕ → ℕ) → List ℕ
ending w p f = map (slot p f) (range_with_len 0 w)
