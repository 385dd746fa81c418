-- The arrival of a frame.
use Rattle.std.specs.Prelude.{ℕ, ◌*◌, cond, List, length, Ok, Err, Result, nat_lt}
use Rattle.refusal.specs.declared.Refusal.{Refusal}
use Rattle.refusal.specs.declared.Refusal.TheVariants.{ShortBuffer, Contradiction}
use Rattle.field.specs.Field.{Means}
use Rattle.carried.specs.Carries.{Carries}
use Rattle.frame.specs.DataFrame.{reading}
use Rattle.frame.specs.declared.data.Data.{Data}
use Rattle.elimination.specs.Absorption.{Absorption, absorbed}
use Rattle.elimination.specs.declared.table.Table.{Table}
use Rattle.elimination.specs.declared.table.Verdict.{Verdict}
use Rattle.elimination.specs.declared.table.Verdict.TheVariants.{Innovative, Redundant, Contradictory}
use Rattle.receiver.specs.Alignment.{aligned}
use Rattle.receiver.specs.Buffers.{concat, over}
use Rattle.receiver.specs.Reach.{reach, raised}
use Rattle.receiver.specs.Release.{Release, releasing}
use Rattle.receiver.specs.declared.state.Answer.{Answer}
use Rattle.receiver.specs.declared.state.Answer.TheVariants.{Fresh, Repeat}
use Rattle.receiver.specs.declared.state.State.{State}

-- an answer, and the receiver and the number buffer after it
pub record Outcome : Type 0 where
  pub answer : Result Answer Refusal
  pub state : State
  pub numbers : List ℕ

abbrev pub arrival : Result Answer Refusal → State → List ℕ → Outcome
arrival a c numbers = record { answer = a; state = c; numbers = numbers }

-- what follows a check: its refusal changes nothing
abbrev pub checked : {A : Type 0} → Result A Refusal → State → List ℕ → (A → Outcome) → Outcome
checked (Ok x) c numbers next = next x
checked (Err e) c numbers next = arrival (Err e) c numbers

-- the receiver c, its table being t
abbrev pub with_table : Table → State → State
with_table t c = record { released = c.released; top = c.top; table = t; kept = c.kept }

-- the receiver c, having accepted the frame f
abbrev pub reaching : Data → State → State
reaching f c = record { released = c.released; top = raised f c.top; table = c.table; kept = c.kept }

-- a fresh answer carries how many packets were released, and they stand in the buffer
abbrev pub fresh : List ℕ → Release → Outcome
fresh numbers o = arrival (Ok (Fresh (length o.packets))) o.state (over numbers (concat o.packets))

-- what the table's verdict on the row of f leads to; t is the table after it
abbrev pub decided : ℕ → State → Data → List ℕ → Table → Verdict → Outcome
decided w c f numbers t (Innovative distance) = fresh numbers (releasing w (reaching f (with_table t c)) w)
decided w c f numbers t Redundant = arrival (Ok Repeat) (reaching f c) numbers
decided w c f numbers t Contradictory = arrival (Err Contradiction) c numbers

-- the same, of what the table gave
abbrev pub judged : ℕ → State → Data → List ℕ → Absorption → Outcome
judged w c f numbers a = decided w c f numbers a.table a.verdict

-- what a readable frame f leads to
abbrev pub accepted : Means → ℕ → State → Data → List ℕ → Outcome
accepted m w c f numbers =
    checked (reach w c.released f) c numbers
    (λ _. judged w c f numbers (absorbed m w c.released (aligned m w c f) c.table))

-- what the bytes of a frame lead to, with a number buffer for w packets
abbrev pub arrived : Means → Carries → ℕ → State → List ℕ → List ℕ → Outcome
arrived m carries w c bytes numbers =
    cond (nat_lt (length numbers) (w * 128)) (arrival (Err ShortBuffer) c numbers)
    (checked (reading m carries w bytes) c numbers (λ f. accepted m w c f numbers))
