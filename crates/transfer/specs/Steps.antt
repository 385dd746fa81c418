-- What each call of a transfer answers and leaves.
use Rattle.std.specs.Prelude.{ℕ, ◌*◌, cond, List, length, Some, None, Ok, Err, Option, Result, ◌==◌, nat_lt}
use Rattle.refusal.specs.declared.Refusal.{Refusal}
use Rattle.refusal.specs.declared.Refusal.TheVariants.{ShortBuffer, WindowEmpty}
use Rattle.frame.specs.DataFrame.{frame_of}
use Rattle.frame.specs.ReportFrame.{report_of}
use Rattle.sender.specs.Steps.{admitting, combined, hearing, width}
use Rattle.sender.specs.declared.window.Window.{Window}
use Rattle.receiver.specs.Arrival.{Outcome, arrived}
use Rattle.receiver.specs.Reports.{reported}
use Rattle.receiver.specs.declared.state.Answer.{Answer}
use Rattle.transfer.specs.Parts.{Parts, State, state}

-- the answer of one end, where a frame was taken for it
abbrev pub some : {A : Type 0} → Result A Refusal → Result (Option A) Refusal
some (Ok x) = Ok (Some x)
some (Err refusal) = Err refusal

-- an answer, and the transfer after it
pub record Called (A S D R : Type 0) : Type 0 where
  pub answer : Result A Refusal
  pub state : State S D R

abbrev pub called : {A S D R : Type 0} → Result A Refusal → State S D R → Called A S D R
called answer σ = record { answer = answer; state = σ }

-- an answer, and the transfer and the number buffer after it
pub record Fetched (S D R : Type 0) : Type 0 where
  pub answer : Result (Option Answer) Refusal
  pub state : State S D R
  pub numbers : List ℕ

abbrev pub fetched : {S D R : Type 0} → Result (Option Answer) Refusal → State S D R → List ℕ → Fetched S D R
fetched answer σ numbers = record { answer = answer; state = σ; numbers = numbers }

module _ {S D R : Type 0} (w : ℕ) (p : Parts S D R) where
  -- the transfer with another window
  abbrev pub with_window : Window → State S D R → State S D R
  with_window x σ = state x σ.source σ.receiver σ.forward σ.reverse

  -- admit is the sender's
  abbrev pub admits : State S D R → List ℕ → Called ℕ S D R
  admits σ packet = let o = admitting w p.means σ.window packet in called o.0 (with_window o.1 σ)

  -- the frame that a send puts: one draw at the window's width
  abbrev pub coded : State S D R → List ℕ
  coded σ = frame_of p.carries w (combined w p.means σ.window (p.draws.slots σ.source p.means.q (width σ.window)))

  -- the transfer after a send
  abbrev pub with_sent : State S D R → State S D R
  with_sent σ =
      state σ.window (p.draws.next σ.source p.means.q (width σ.window)) σ.receiver
      (p.forward.put σ.forward (coded σ)) σ.reverse

  -- send puts a frame on the data link, where the window is not empty, and answers its length
  abbrev pub sends : State S D R → Called ℕ S D R
  sends σ = cond (σ.window.unseen == σ.window.admitted) (called (Err WindowEmpty) σ) (called (Ok p.carries.len) (with_sent σ))

  -- the frame that a fetch with this number buffer takes
  abbrev pub fetch_takes : State S D R → List ℕ → Option (List ℕ)
  fetch_takes σ numbers = cond (nat_lt (length numbers) (w * 128)) None (p.forward.first σ.forward)

  -- the transfer, the data link's next frame being taken
  abbrev pub with_taken : State S D R → State S D R
  with_taken σ = state σ.window σ.source σ.receiver (p.forward.rest σ.forward) σ.reverse

  -- the transfer after a frame arrived, whatever the answer: the report is put on the report link
  abbrev pub with_arrived : State S D R → Outcome → State S D R
  with_arrived σ o =
      state σ.window σ.source o.state (p.forward.rest σ.forward) (p.reverse.put σ.reverse (report_of (reported w o.state)))

  -- what a fetch answers and leaves for the frame taken, or none
  abbrev pub receives : State S D R → List ℕ → Option (List ℕ) → Fetched S D R
  receives σ numbers None = fetched (Ok None) (with_taken σ) numbers
  receives σ numbers (Some frame) =
      let o = arrived p.means p.carries w σ.receiver frame numbers in
      fetched (some o.answer) (with_arrived σ o) o.numbers

  -- fetch checks the number buffer, and only then takes a frame
  abbrev pub fetches : State S D R → List ℕ → Fetched S D R
  fetches σ numbers =
      cond (nat_lt (length numbers) (w * 128)) (fetched (Err ShortBuffer) σ numbers) (receives σ numbers (p.forward.first σ.forward))

  -- the frame that a hear takes
  abbrev pub hear_takes : State S D R → Option (List ℕ)
  hear_takes σ = p.reverse.first σ.reverse

  -- the transfer after a report is taken, with another window
  abbrev pub with_heard : Window → State S D R → State S D R
  with_heard x σ = state x σ.source σ.receiver σ.forward (p.reverse.rest σ.reverse)

  -- what a hear answers and leaves for the frame taken, or none
  abbrev pub heeds : State S D R → Option (List ℕ) → Called (Option (ℕ × ℕ)) S D R
  heeds σ None = called (Ok None) (with_heard σ.window σ)
  heeds σ (Some frame) = let o = hearing σ.window frame in called (some o.0) (with_heard o.1 σ)

  -- hear takes a report for the sender
  abbrev pub hears : State S D R → Called (Option (ℕ × ℕ)) S D R
  hears σ = heeds σ (p.reverse.first σ.reverse)
