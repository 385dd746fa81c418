-- What every call of a transfer ensures over all logs, by the state that it finds and the one that it leaves.
use Rattle.std.specs.Prelude.{ℕ, List, ◌∷◌, Option, Result}
use Rattle.refusal.specs.declared.Refusal.{Refusal}
use Rattle.receiver.specs.declared.state.Answer.{Answer}
use Rattle.transfer.specs.declared.Transfer.{Transfer}
use Rattle.transfer.specs.Log.{Event}
use Rattle.transfer.specs.Parts.{Parts, State, state}
use Rattle.transfer.specs.Promise.{Promise}
use Rattle.transfer.specs.Run.{Run}
use Rattle.transfer.specs.Steps.{coded, fetch_takes, hear_takes}

-- the state of a transfer
abbrev pub state_of : {P C S D R : Type 0} → Transfer P C S D R → State S D R
state_of x = state x.sender.window x.sender.source x.receiver.state x.forward x.reverse

-- the event of a call, by what its caller sees; its frame is the one that the parts give in the state that it finds
abbrev pub Call : Type 0 → Type 0 → Type 0 → Type 0
Call S D R = ℕ → Parts S D R → State S D R → Event

module _ {S D R : Type 0} where
  abbrev pub admit : List ℕ → Result ℕ Refusal → Call S D R
  admit packet answer w p σ = Event.admit packet answer

  abbrev pub seal : Call S D R
  seal w p σ = Event.seal

  abbrev pub send : Result ℕ Refusal → Call S D R
  send answer w p σ = Event.send (coded w p σ) answer

  abbrev pub fetch : List ℕ → Result (Option Answer) Refusal → List ℕ → Call S D R
  fetch before answer after w p σ = Event.fetch (fetch_takes w p σ before) before answer after

  abbrev pub hear : Result (Option (ℕ × ℕ)) Refusal → Call S D R
  hear answer w p σ = Event.hear (hear_takes w p σ) answer

  -- whichever log leads to σ, with the call it leads to τ
  abbrev pub GoesOn : ℕ → Parts S D R → Call S D R → State S D R → State S D R → Type 0
  GoesOn w p call σ τ =
      (source : S) (forward : D) (reverse : R) (log : List Event) → Run w p source forward reverse log σ
      → Run w p source forward reverse (call w p σ ∷ log) τ

  -- whichever log leads to σ, with the call it keeps the promise
  abbrev pub Stands : ℕ → Parts S D R → Call S D R → State S D R → Type 0
  Stands w p call σ =
      (source : S) (forward : D) (reverse : R) (log : List Event) → Run w p source forward reverse log σ
      → Promise p.means p.carries w (p.forward.waiting forward) (p.reverse.waiting reverse) (call w p σ ∷ log)
