-- Tables of rows over a field m: the row that begins at packet k stands at its place k % w.
use Rattle.std.specs.Prelude.{ℕ, ◌%◌, Bool, cond, List, replicate, is_some, Some, None, Option, slice_index, slice_index_or, slice_set}
use Rattle.field.specs.Field.{Means}
use Rattle.elimination.specs.Loops.{turns}
use Rattle.elimination.specs.Rows.{less_row, unit_at}
use Rattle.elimination.specs.declared.row.Row.{Row}
use Rattle.elimination.specs.declared.table.Table.{Table}

-- the table of w places without rows
abbrev pub no_rows : ℕ → Table
no_rows w = record { rows = replicate w None }

-- the row at the place i, if there is one
abbrev pub row_at : Table → ℕ → Option Row
row_at t i = slice_index_or t.rows i None

-- the table t, with o at the place i
abbrev pub with_row : ℕ → Option Row → Table → Table
with_row i o t = record { rows = slice_set t.rows i o }

-- a row begins at packet k
abbrev pub holding : ℕ → Table → ℕ → Bool
holding w t k = is_some (row_at t (k % w))

-- the row x, made 0 at the place i by a row y that is 1 there
abbrev pub cleared : Means → ℕ → Row → Row → Row
cleared m i y x = less_row m (slice_index x.slots i) y x

-- the row x, made 0 at the place i by the table's row there
abbrev pub reduced_by : Means → ℕ → Option Row → Row → Row
reduced_by m i None x = x
reduced_by m i (Some y) x = cleared m i y x

-- the row x, made 0 at each place where the table has a row
abbrev pub reduced : Means → ℕ → Table → Row → Row
reduced m w t x = turns (λ i. reduced_by m i (row_at t i)) x w

-- a row of the table, made 0 at the place s by the row x
abbrev pub cleared_by : Means → ℕ → Row → Option Row → Option Row
cleared_by m s x None = None
cleared_by m s x (Some y) = Some (cleared m s x y)

-- the table t, its row at the place i made 0 at the place s by the row x
abbrev pub clear_at : Means → ℕ → Row → ℕ → Table → Table
clear_at m s x i t = with_row i (cleared_by m s x (row_at t i)) t

-- the table t, every row made 0 at the place s by the row x, which then stands there
abbrev pub joined : Means → ℕ → ℕ → Row → Table → Table
joined m w s x t = with_row s (Some x) (turns (clear_at m s x) t w)

-- the payload of a row that is 0 at every place but i
abbrev pub packet_in : ℕ → ℕ → Option Row → Option (List ℕ)
packet_in w i None = None
packet_in w i (Some x) = cond (unit_at w i x) (Some x.payload) None

-- packet k, where the row that begins there is 0 elsewhere
abbrev pub solved : ℕ → Table → ℕ → Option (List ℕ)
solved w t k = packet_in w (k % w) (row_at t (k % w))

-- the table t, without its row at the place i where that gave a packet
abbrev pub without : ℕ → Option (List ℕ) → Table → Table
without i None t = t
without i (Some p) t = with_row i None t
