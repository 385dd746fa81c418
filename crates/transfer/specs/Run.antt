-- Which state a log leads to.
use Rattle.std.specs.Prelude.{◌≡◌, ℕ, List, [], ◌∷◌}
use Rattle.transfer.specs.Log.{Event}
use Rattle.transfer.specs.Parts.{Parts, State, started}
use Rattle.transfer.specs.Steps.{called, fetched, admits, coded, sends, fetch_takes, fetches, hear_takes, hears}

module _ {S D R : Type 0} (w : ℕ) (p : Parts S D R) where
  -- the call leads from one state to the next, with the answer, the frame and the buffer that it has there
  abbrev pub Leads : Event → State S D R → State S D R → Type 0
  Leads (Event.admit packet answer) σ τ = called answer τ ≡ admits w p σ packet
  Leads Event.seal σ τ = τ ≡ σ
  Leads (Event.send frame answer) σ τ = (frame ≡ coded w p σ) × (called answer τ ≡ sends w p σ)
  Leads (Event.fetch frame before answer after) σ τ = (frame ≡ fetch_takes w p σ before) × (fetched answer τ after ≡ fetches w p σ before)
  Leads (Event.hear frame answer) σ τ = (frame ≡ hear_takes w p σ) × (called answer τ ≡ hears w p σ)

  -- the calls of the log, one after another on a new transfer with this source and these links, end in τ
  abbrev pub Run : S → D → R → List Event → State S D R → Type 0
  Run source forward reverse [] τ = τ ≡ started w source forward reverse
  Run source forward reverse (e ∷ log) τ = (σ : State S D R) × Run source forward reverse log σ × Leads e σ τ
