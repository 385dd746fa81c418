-- Which state a log leads to.
use Rattle.std.specs.Prelude.{◌≡◌, ℕ, List, [], ◌∷◌}
use Rattle.field.specs.Field.{Means}
use Rattle.carried.specs.Carries.{Carries}
use Rattle.receiver.specs.Arrival.{arrival, arrived}
use Rattle.receiver.specs.Log.{Arrival}
use Rattle.receiver.specs.Start.{at_first}
use Rattle.receiver.specs.declared.state.State.{State}

-- the calls of the log, one after another on a new receiver, each with the answer and the buffer that it has there, end in c
abbrev pub Run : Means → Carries → ℕ → List Arrival → State → Type 0
Run m carries w [] c = c ≡ at_first w
Run m carries w (a ∷ log) c =
    (b : State) × Run m carries w log b × (arrival a.answer c a.after ≡ arrived m carries w b a.frame a.before)
