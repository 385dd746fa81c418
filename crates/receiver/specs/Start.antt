-- A new receiver, and what every receiver keeps.
use Rattle.std.specs.Prelude.{ℕ, ◌+◌, ◌≤◌, replicate}
use Rattle.field.specs.Field.{Means}
use Rattle.elimination.specs.Reduced.{Reduced}
use Rattle.elimination.specs.Tables.{no_rows}
use Rattle.receiver.specs.declared.state.State.{State}

-- nothing is released, reached or seen
abbrev pub at_first : ℕ → State
at_first w = record { released = 0; top = 0; table = no_rows w; kept = replicate w (replicate 128 0) }

-- the stream has 65,536 packets, and no frame reaches past the window
abbrev pub Bounded : ℕ → State → Type 0
Bounded w c = (c.released ≤ 65536) × (c.top ≤ c.released + w)

-- the table is reduced, over the packets from the next one on
abbrev pub Sound : Means → ℕ → State → Type 0
Sound m w c = Reduced m w c.released c.table
