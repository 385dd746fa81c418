-- A call after a log keeps the promise.
use Rattle.std.proofs.Common.{◌≡◌, ℕ, ◌%◌, ◌<◌, ◌∷◌}
use Rattle.field.specs.Field.{Means, Laws}
use Rattle.carried.specs.Carries.{Carries, Lays}
use Rattle.source.specs.Source.{Draws, DrawsLaws}
use Rattle.link.specs.Link.{Carries as Link-means, CarriesLaws as Link-laws}
use Rattle.transfer.specs.Calls.{Call, Stands}
use Rattle.transfer.specs.Parts.{Parts, PartsLaws, State, parts}
use Rattle.transfer.specs.Run.{Leads}
use Rattle.transfer.proofs.Standing.{stands}

-- the laws of the parts together
abbrev pub together : {S D R : Type 0} {m : Means} {carries : Carries} {draws : Draws S} {forward : Link-means D} {reverse : Link-means R} {w : ℕ}
    → Laws m → Lays w m.q carries → DrawsLaws w draws → Link-laws 400 forward → Link-laws 400 reverse → PartsLaws w (parts m carries draws forward reverse)
together means carries draws forward reverse = record { means = means; carries = carries; draws = draws; forward = forward; reverse = reverse }

module _ {S D R : Type 0} {w : ℕ} {p : Parts S D R} (pos : 0 < w) (whole : w % 8 ≡ 0) (laws : PartsLaws w p) (σ τ : State S D R) where
  pub call-stands : (call : Call S D R) → Leads w p (call w p σ) σ τ → Stands w p call σ
  call-stands call leads source forward reverse log run = stands w pos whole p laws source forward reverse (call w p σ ∷ log) τ (σ, run, leads)
