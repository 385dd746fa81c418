-- What the parts of a transfer mean, their laws, and its state.
use Rattle.std.specs.Prelude.{ℕ}
use Rattle.field.specs.Field.{Means, Laws}
use Rattle.carried.specs.Carries.{Carries, Lays}
use Rattle.source.specs.Source.{Draws, DrawsLaws}
use Rattle.link.specs.Link.{Carries as Link-means, CarriesLaws as Link-laws}
use Rattle.sender.specs.Steps.{empty}
use Rattle.sender.specs.declared.window.Window.{Window}
use Rattle.receiver.specs.Start.{at_first}
use Rattle.receiver.specs.declared.state.State.{State as Receiver-state}

-- the field and how it lies in bytes, the source, the link of data frames (forward) and the link of reports (reverse)
pub record Parts (S D R : Type 0) : Type 0 where
  pub means : Means
  pub carries : Carries
  pub draws : Draws S
  pub forward : Link-means D
  pub reverse : Link-means R

abbrev pub parts : {S D R : Type 0} → Means → Carries → Draws S → Link-means D → Link-means R → Parts S D R
parts m carries draws forward reverse = record { means = m; carries = carries; draws = draws; forward = forward; reverse = reverse }

-- each part keeps its laws; windows have room for w packets
pub record PartsLaws {S D R : Type 0} (w : ℕ) (p : Parts S D R) : Type 0 where
  pub means : Laws p.means
  pub carries : Lays w p.means.q p.carries
  pub draws : DrawsLaws w p.draws
  pub forward : Link-laws 400 p.forward
  pub reverse : Link-laws 400 p.reverse

-- the sender's window and source, the receiver, and the two links
pub record State (S D R : Type 0) : Type 0 where
  pub window : Window
  pub source : S
  pub receiver : Receiver-state
  pub forward : D
  pub reverse : R

abbrev pub state : {S D R : Type 0} → Window → S → Receiver-state → D → R → State S D R
state window source receiver forward reverse = record { window = window; source = source; receiver = receiver; forward = forward; reverse = reverse }

-- a new transfer with this source and these links
abbrev pub started : {S D R : Type 0} → ℕ → S → D → R → State S D R
started w source forward reverse = state (empty w) source (at_first w) forward reverse
