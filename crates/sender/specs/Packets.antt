-- What a window holds of the packets that were admitted, and what its frames tell of them.
use Rattle.std.specs.Prelude.{◌≡◌, ℕ, ◌<◌, ◌≤◌, List, [], ◌∷◌, ◌++◌, length, take, IfOk, Ok, Err, Result, slice_index_or}
use Rattle.refusal.specs.declared.Refusal.{Refusal}
use Rattle.field.specs.Field.{Means}
use Rattle.carried.specs.Carries.{Carries}
use Rattle.frame.specs.declared.data.Data.{Data}
use Rattle.frame.specs.DataFrame.{reading}
use Rattle.algebra.specs.Frames.{Codes, frame_at}
use Rattle.algebra.specs.Streams.{Fits}
use Rattle.source.specs.Source.{Draws}
use Rattle.sender.specs.declared.window.Window.{Window}
use Rattle.sender.specs.Steps.{packet_at, width}

-- the window is that of a sender that admitted these packets: it counts them all, and has those from the oldest unseen
-- one on in their places
pub record Holds (w q : ℕ) (packets : List (List ℕ)) (x : Window) : Type 0 where
  pub many : length packets ≡ x.admitted
  pub codes : (k : ℕ) → k < x.admitted → Codes q 128 (slice_index_or packets k [])
  pub places : length x.packets ≡ w
  pub kept : (k : ℕ) → x.unseen ≤ k → k < x.admitted → packet_at w x k ≡ slice_index_or packets k []

-- the admitted packets after one more call of admit
abbrev pub grown : List (List ℕ) → List ℕ → Result ℕ Refusal → List (List ℕ)
grown packets packet (Ok t) = packets ++ packet ∷ []
grown packets packet (Err refusal) = packets

-- from one window to the next, the packet was admitted where the answer says so, and no other
abbrev pub Appends : ℕ → ℕ → List ℕ → Result ℕ Refusal → Window → Window → Type 0
Appends w q packet r x y = (packets : List (List ℕ)) → Holds w q packets x → Holds w q (grown packets packet r) y

-- from one window to the next, no packet was admitted
abbrev pub Keeps : ℕ → ℕ → Window → Window → Type 0
Keeps w q x y = (packets : List (List ℕ)) → Holds w q packets x → Holds w q packets y

-- the stream begins with the packets
abbrev pub Begins : List (List ℕ) → (ℕ → List ℕ) → Type 0
Begins packets s = (k : ℕ) → k < length packets → s k ≡ slice_index_or packets k []

-- the bytes read back as a frame that covers the window with these slots, and fits every stream that begins with the
-- packets
pub record Tells (w : ℕ) (m : Means) (c : Carries) (x : Window) (slots : List ℕ) (packets : List (List ℕ)) (bytes : List ℕ) : Type 0 where
  pub says : Data
  pub read : reading m c w bytes ≡ Ok says
  pub base : says.base ≡ x.unseen
  pub wide : says.width ≡ width x
  pub row : says.slots ≡ slots
  pub fits : (s : ℕ → List ℕ) → Begins packets s → Fits 65536 128 m s (frame_at says.base says.slots says.symbols)

-- whatever packets were admitted, the frame that was sent, of the answered length, tells of them by the slots drawn
abbrev pub TellsPackets : {S : Type 0} → ℕ → Means → Carries → Draws S → Window → S → Result ℕ Refusal → List ℕ → Type 0
TellsPackets w m c d x source r buffer =
    (packets : List (List ℕ)) → Holds w m.q packets x
    → IfOk r (λ n. Tells w m c x (d.slots source m.q (width x)) packets (take n buffer))
