-- A frame's row, over the w packets from the next one on.
use Rattle.std.specs.Prelude.{ℕ, ◌+◌, ◌%◌, cond, [], replicate, nat_lt, slice_index, slice_index_or, slice_set}
use Rattle.field.specs.Field.{Means}
use Rattle.frame.specs.declared.data.Data.{Data}
use Rattle.elimination.specs.Loops.{turns}
use Rattle.elimination.specs.Rows.{less_packet}
use Rattle.elimination.specs.declared.row.Row.{Row}
use Rattle.receiver.specs.declared.state.State.{State}

-- the row x, with the coefficient a of packet k
abbrev pub with_slot : ℕ → ℕ → ℕ → Row → Row
with_slot w k a x = record { slots = slice_set x.slots (k % w) a; payload = x.payload }

-- the row x, with the coefficient a of packet k, which is subtracted where it is released
abbrev pub with_packet : Means → ℕ → State → ℕ → ℕ → Row → Row
with_packet m w c k a x = cond (nat_lt k c.released) (less_packet m a (slice_index_or c.kept (k % w) []) x) (with_slot w k a x)

-- the row of the frame f, slot by slot
abbrev pub aligned : Means → ℕ → State → Data → Row
aligned m w c f =
    turns (λ i. with_packet m w c (f.base + i) (slice_index f.slots i)) (record { slots = replicate w 0; payload = f.symbols }) f.width
