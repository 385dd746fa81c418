-- What a transfer promises after every log, by the packets that were admitted, the frames that were sent and taken, and the
-- packets that were released.
use Rattle.std.specs.Prelude.{◌≡◌, ℕ, ◌+◌, ◌<◌, ◌≤◌, ◌↔◌, List, [], ◌++◌, length}
use mathlib.Core.List.{Memᴰ}
use Rattle.field.specs.Field.{Means}
use Rattle.carried.specs.Carries.{Carries}
use Rattle.algebra.specs.Combinations.{rows, Seen}
use Rattle.receiver.specs.Log.{accepted, released, fresh_count}
use Rattle.receiver.specs.Promise.{Promise as Receiver-promise}
use Rattle.transfer.specs.Log.{Event, Sending, arrivals, admitted, heard, dropped, sendings, taken}

-- n sends in a row, one or more, none other between them, each of which coded the window of the n packets from u on, and the
-- frame of each of which some fetch took
pub record WindowTaken (log : List Event) (u n : ℕ) : Type 0 where
  pub some : 1 ≤ n
  pub newer : List Sending
  pub row : List Sending
  pub older : List Sending
  pub in_a_row : sendings log ≡ newer ++ (row ++ older)
  pub many : length row ≡ n
  pub one_window : (s : Sending) → Memᴰ s row → (s.from ≡ u) × (s.to ≡ u + n)
  pub each_taken : (s : Sending) → Memᴰ s row → Memᴰ s.frame (taken log)

module _ (m : Means) (carries : Carries) (w : ℕ) where
  -- what holds where no frame waited on the links when the transfer opened, whatever they lose, double, hold or reorder
  pub record Delivery (log : List Event) : Type 0 where
    -- every packet that the sender dropped is seen
    pub trimmed : (k : ℕ) → k < dropped log → Seen m (rows (accepted carries w (arrivals log))) k
    -- every packet that the sender heard to be released is released
    pub confirmed : (heard log).0 ≤ length (released (arrivals log))
    -- the released packets are the first of the admitted ones, in order
    pub in_order : (rest : List (List ℕ)) × (admitted log ≡ released (arrivals log) ++ rest)
    -- all are released exactly when there are as many fresh answers as admitted packets
    pub complete : (length (released (arrivals log)) ≡ length (admitted log)) ↔ (fresh_count (arrivals log) ≡ length (admitted log))
    -- where the frames of n sends in a row that code one window of n packets were all taken, every packet admitted before
    -- them is released
    pub progress : (u n : ℕ) → WindowTaken log u n → u + n ≤ length (released (arrivals log))

  -- what holds after every log of a transfer; forth and back are the frames that waited on its data link and on its report
  -- link when it was new
  pub record Promise (forth back : List (List ℕ)) (log : List Event) : Type 0 where
    -- its receiver answers rightly and releases exactly, whatever waited on the links
    pub receiver : Receiver-promise m carries w (arrivals log)
    pub delivery : forth ≡ [] → back ≡ [] → Delivery log
