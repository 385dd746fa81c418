-- A file's packets, one after another, each in a frame of its own, at a receiver.
use Rattle.std.specs.Prelude.{◌≡◌, ℕ, List, replicate, slice_set}
use Rattle.elimination.specs.Tables.{no_rows}
use Rattle.frame.specs.declared.data.Data.{Data}
use Rattle.job.specs.declared.tally.Tally.{Tally}
use Rattle.receiver.specs.declared.state.State.{State}

-- packet k in a frame of its own, of w slots
abbrev pub alone : ℕ → ℕ → List ℕ → Data
alone w k symbols = record { base = k; width = 1; slots = slice_set (replicate w 0) 0 1; symbols = symbols }

-- a receiver that has released k packets and holds no row
pub record Waits (w k : ℕ) (c : State) : Type 0 where
  pub count : c.released ≡ k
  pub none : c.table ≡ no_rows w

-- n frames, each of them fresh
abbrev pub all_fresh : ℕ → Tally
all_fresh n = record { sent = n; fresh = n; repeat = 0; refused = 0 }
