-- The log of a transfer: all calls since it was new, and what they show. A log has the newest call first.
use Rattle.std.specs.Prelude.{ℕ, max, List, [], ◌∷◌, length, Some, None, Ok, Err, Option, Result}
use Rattle.refusal.specs.declared.Refusal.{Refusal}
use Rattle.sender.specs.Packets.{grown}
use Rattle.receiver.specs.Log.{Arrival, call}
use Rattle.receiver.specs.declared.state.Answer.{Answer}

-- a call with its answer: admit with the packet, send with the frame that it put, fetch with the frame that it took and the
-- number buffer before and after, hear with the frame that it took; a refused send put no frame
pub data Event : Type 0 where
  admit : List ℕ → Result ℕ Refusal → Event
  seal : Event
  send : List ℕ → Result ℕ Refusal → Event
  fetch : Option (List ℕ) → List ℕ → Result (Option Answer) Refusal → List ℕ → Event
  hear : Option (List ℕ) → Result (Option (ℕ × ℕ)) Refusal → Event

-- a fetch that took a frame made one more call of the receiver
abbrev pub arriving : Option (List ℕ) → List ℕ → Result (Option Answer) Refusal → List ℕ → List Arrival → List Arrival
arriving None before answer after calls = calls
arriving (Some frame) before (Ok None) after calls = calls
arriving (Some frame) before (Ok (Some answer)) after calls = call frame before (Ok answer) after ∷ calls
arriving (Some frame) before (Err refusal) after calls = call frame before (Err refusal) after ∷ calls

-- the log of the transfer's receiver
abbrev pub arrivals : List Event → List Arrival
arrivals [] = []
arrivals (Event.admit packet answer ∷ log) = arrivals log
arrivals (Event.seal ∷ log) = arrivals log
arrivals (Event.send frame answer ∷ log) = arrivals log
arrivals (Event.fetch frame before answer after ∷ log) = arriving frame before answer after (arrivals log)
arrivals (Event.hear frame answer ∷ log) = arrivals log

-- the admitted packets, the oldest first
abbrev pub admitted : List Event → List (List ℕ)
admitted [] = []
admitted (Event.admit packet answer ∷ log) = grown (admitted log) packet answer
admitted (Event.seal ∷ log) = admitted log
admitted (Event.send frame answer ∷ log) = admitted log
admitted (Event.fetch frame before answer after ∷ log) = admitted log
admitted (Event.hear frame answer ∷ log) = admitted log

-- the two numbers that the sender has heard, with those of one more answer
abbrev pub hearing : Result (Option (ℕ × ℕ)) Refusal → ℕ × ℕ → ℕ × ℕ
hearing (Ok None) numbers = numbers
hearing (Ok (Some answer)) numbers = (max numbers.0 answer.0, max numbers.1 answer.1)
hearing (Err refusal) numbers = numbers

-- the greatest numbers that hear answered: how many packets are released, and the oldest unseen
abbrev pub heard : List Event → ℕ × ℕ
heard [] = (0, 0)
heard (Event.admit packet answer ∷ log) = heard log
heard (Event.seal ∷ log) = heard log
heard (Event.send frame answer ∷ log) = heard log
heard (Event.fetch frame before answer after ∷ log) = heard log
heard (Event.hear frame answer ∷ log) = hearing answer (heard log)

-- how many packets the sender dropped: all before the oldest unseen that it heard of
abbrev pub dropped : List Event → ℕ
dropped log = (heard log).1

-- a send that was not refused: the frame that it put, and the window that it coded, the packets from one number up to below
-- the other
pub record Sending : Type 0 where
  pub frame : List ℕ
  pub from : ℕ
  pub to : ℕ

-- one more send, where it was not refused
abbrev pub sending : List ℕ → Result ℕ Refusal → ℕ → ℕ → List Sending → List Sending
sending frame (Ok size) from to sends = record { frame = frame; from = from; to = to } ∷ sends
sending frame (Err refusal) from to sends = sends

-- the sends that were not refused, the newest first: the window is the packets that were admitted and not dropped
abbrev pub sendings : List Event → List Sending
sendings [] = []
sendings (Event.admit packet answer ∷ log) = sendings log
sendings (Event.seal ∷ log) = sendings log
sendings (Event.send frame answer ∷ log) = sending frame answer (dropped log) (length (admitted log)) (sendings log)
sendings (Event.fetch frame before answer after ∷ log) = sendings log
sendings (Event.hear frame answer ∷ log) = sendings log

-- one more frame, if there is one
abbrev pub with_frame : Option (List ℕ) → List (List ℕ) → List (List ℕ)
with_frame None frames = frames
with_frame (Some frame) frames = frame ∷ frames

-- the frames that fetches took, the newest first
abbrev pub taken : List Event → List (List ℕ)
taken [] = []
taken (Event.admit packet answer ∷ log) = taken log
taken (Event.seal ∷ log) = taken log
taken (Event.send frame answer ∷ log) = taken log
taken (Event.fetch frame before answer after ∷ log) = with_frame frame (taken log)
taken (Event.hear frame answer ∷ log) = taken log
