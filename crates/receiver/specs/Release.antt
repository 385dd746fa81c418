-- Releasing packets while the next one is known.
use Rattle.std.specs.Prelude.{ℕ, ◌+◌, ◌%◌, cond, List, [], ◌∷◌, ◌++◌, Some, None, Option, nat_lt, slice_set}
use Rattle.elimination.specs.Loops.{turns}
use Rattle.elimination.specs.Tables.{solved, without}
use Rattle.receiver.specs.declared.state.State.{State}

-- the next packet, where it is known and the stream has one
abbrev pub ready : ℕ → State → Option (List ℕ)
ready w c = cond (nat_lt c.released 65536) (solved w c.table c.released) None

-- the receiver c, having released its next packet, if there is one: that leaves the table and is kept
abbrev pub advanced : ℕ → Option (List ℕ) → State → State
advanced w None c = c
advanced w (Some p) c = record {
  released = c.released + 1;
  top = c.top;
  table = without (c.released % w) (Some p) c.table;
  kept = slice_set c.kept (c.released % w) p;
}

-- a receiver, and the packets that it has released on the way there, in order
pub record Release : Type 0 where
  pub state : State
  pub packets : List (List ℕ)

-- the next packet released too, if there is one
abbrev pub release_one : ℕ → Option (List ℕ) → Release → Release
release_one w None o = o
release_one w (Some p) o = record { state = advanced w (Some p) o.state; packets = o.packets ++ p ∷ [] }

-- what n turns release, each the next packet where it is known; a table of w rows holds no more than w packets
abbrev pub releasing : ℕ → State → ℕ → Release
releasing w c = turns (λ i o. release_one w (ready w o.state) o) (record { state = c; packets = [] })
