-- The log of a receiver: all calls of `arrive` since it was new, and what they show. A log has the newest call first.
use Rattle.std.specs.Prelude.{ℕ, zero, suc, ◌+◌, max, List, [], ◌∷◌, ◌++◌, take, drop, Ok, Err, Result}
use Rattle.refusal.specs.declared.Refusal.{Refusal}
use Rattle.carried.specs.Carries.{Carries}
use Rattle.frame.specs.DataFrame.{contents}
use Rattle.frame.specs.declared.data.Data.{Data}
use Rattle.algebra.specs.Frames.{Frame, frame_at}
use Rattle.receiver.specs.declared.state.Answer.{Answer}
use Rattle.receiver.specs.declared.state.Answer.TheVariants.{Fresh, Repeat}

-- a call: the bytes and the number buffer that it was handed, its answer, and the buffer after it
pub record Arrival : Type 0 where
  pub frame : List ℕ
  pub before : List ℕ
  pub answer : Result Answer Refusal
  pub after : List ℕ

abbrev pub call : List ℕ → List ℕ → Result Answer Refusal → List ℕ → Arrival
call frame before answer after = record { frame = frame; before = before; answer = answer; after = after }

-- the frame that some contents are: slot i holds the coefficient of packet base + i, and the symbols are the payload
abbrev pub said : Data → Frame
said d = frame_at d.base d.slots d.symbols

-- one more frame, where it was accepted
abbrev pub with_frame : Result Answer Refusal → Frame → List Frame → List Frame
with_frame (Ok answer) f frames = f ∷ frames
with_frame (Err refusal) f frames = frames

-- the accepted frames, the newest first, by what their bytes say
abbrev pub accepted : Carries → ℕ → List Arrival → List Frame
accepted carries w [] = []
accepted carries w (a ∷ log) = with_frame a.answer (said (contents carries w a.frame)) (accepted carries w log)

-- the first n packets of a buffer, 128 numbers each
unfoldable pub packets : ℕ → List ℕ → List (List ℕ)
packets zero numbers = []
packets (suc n) numbers = take 128 numbers ∷ packets n (drop 128 numbers)

-- the packets that a call released: a fresh answer has their count, and they stand at the start of the buffer
abbrev pub wrote : Result Answer Refusal → List ℕ → List (List ℕ)
wrote (Ok (Fresh n)) after = packets n after
wrote (Ok Repeat) after = []
wrote (Err refusal) after = []

-- all released packets, the oldest first
abbrev pub released : List Arrival → List (List ℕ)
released [] = []
released (a ∷ log) = released log ++ wrote a.answer a.after

-- a fresh answer counts
abbrev pub fresh_one : Result Answer Refusal → ℕ
fresh_one (Ok (Fresh n)) = 1
fresh_one (Ok Repeat) = 0
fresh_one (Err refusal) = 0

-- how many answers were fresh
abbrev pub fresh_count : List Arrival → ℕ
fresh_count [] = 0
fresh_count (a ∷ log) = fresh_count log + fresh_one a.answer

-- a row's end counts, where it was accepted
abbrev pub with_end : Result Answer Refusal → Data → ℕ → ℕ
with_end (Ok answer) d top = max top (d.base + d.width)
with_end (Err refusal) d top = top

-- the greatest end of an accepted row, or 0
abbrev pub top : Carries → ℕ → List Arrival → ℕ
top carries w [] = 0
top carries w (a ∷ log) = with_end a.answer (contents carries w a.frame) (top carries w log)
