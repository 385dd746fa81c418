-- Rows with payloads, over a field m. The coefficient of packet k stands at its place k % w in a ring of w.
use Rattle.std.specs.Prelude.{ℕ, ◌+◌, ◌%◌, Bool, not, ◌||◌, List, map, length, Some, None, Option, ◌==◌, slice_index}
use Rattle.std.specs.List.{range_with_len}
use Rattle.field.specs.Field.{Means, minus, times, inverse}
use Rattle.elimination.specs.Loops.{seek, every}
use Rattle.elimination.specs.declared.row.Row.{Row}

-- the number at place k of xs, less c times that of ys
abbrev pub less : Means → ℕ → List ℕ → List ℕ → ℕ → ℕ
less m c ys xs k = minus m (slice_index xs k) (times m c (slice_index ys k))

-- xs less c times ys, number by number
unfoldable pub less_all : Means → ℕ → List ℕ → List ℕ → List ℕ
less_all m c ys xs = map (less m c ys xs) (range_with_len 0 (length xs))

-- the row x less c times the row y
abbrev pub less_row : Means → ℕ → Row → Row → Row
less_row m c y x = record { slots = less_all m c y.slots x.slots; payload = less_all m c y.payload x.payload }

-- the row x, its payload less c times the packet p
abbrev pub less_packet : Means → ℕ → List ℕ → Row → Row
less_packet m c p x = record { slots = x.slots; payload = less_all m c p x.payload }

-- c times xs, number by number
unfoldable pub times_all : Means → ℕ → List ℕ → List ℕ
times_all m c xs = map (times m c) xs

-- c times the row x, or x itself where there is no c
abbrev pub times_row : Means → Option ℕ → Row → Row
times_row m None x = x
times_row m (Some c) x = record { slots = times_all m c x.slots; payload = times_all m c x.payload }

-- the row x, scaled to 1 at the place i, where it is not 0
abbrev pub scaled : Means → ℕ → Row → Row
scaled m i x = times_row m (inverse m (slice_index x.slots i)) x

-- the coefficient i past start is not 0
abbrev pub nonzero : ℕ → ℕ → Row → ℕ → Bool
nonzero w start x i = not (slice_index x.slots ((start + i) % w) == 0)

-- how far past start, and less than w, the first coefficient other than 0 stands
abbrev pub first_from : ℕ → ℕ → Row → Option ℕ
first_from w start x = seek (nonzero w start x) 0 w

-- the place k is i, or the row is 0 there
abbrev pub zero_beside : ℕ → Row → ℕ → Bool
zero_beside i x k = k == i || slice_index x.slots k == 0

-- the row is 0 at every place but i
abbrev pub unit_at : ℕ → ℕ → Row → Bool
unit_at w i x = every (zero_beside i x) w
