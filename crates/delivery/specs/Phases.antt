-- What the program has when it stops to admit, and when it stops.
use Rattle.std.specs.Prelude.{◌≡◌, ℕ, ◌-◌, ◌*◌, ◌<◌, Bool, true, false, cond, List, length, Some, None, Ok, Err, Option, Result, MatchResult, ◌==◌}
use Rattle.refusal.specs.declared.Refusal.{Refusal}
use Rattle.link.specs.declared.plain.PlainLink.{PlainLink}
use Rattle.link.specs.declared.scripted.ScriptedLink.{ScriptedLink}
use Rattle.file.specs.Packets.{packets, packet_of}
use Rattle.file.specs.Spelling.{spelling_of}
use Rattle.transfer.specs.Parts.{Parts, State}
use Rattle.transfer.specs.Calls.{state_of}
use Rattle.delivery.specs.declared.exchange.Delivery.{Delivery}
use Rattle.delivery.specs.declared.outcome.Ending.TheVariants.{Whole, Spent}
use Rattle.delivery.specs.declared.outcome.Outcome.{Outcome}
use Rattle.delivery.specs.declared.progress.Progress.{Progress}
use Rattle.delivery.specs.Follows.{Follows, Small}
use Rattle.delivery.specs.Outcome.{outcome_of, course_of, Ends}
use Rattle.delivery.specs.Rounds.{Course, seal_it, admit_all_lem, rounds, closing}

module _ {S : Type 0} (p : Parts S ScriptedLink PlainLink) (file : List ℕ) where
  -- packet k of the file, and how many there are
  abbrev pub file_packet : ℕ → List ℕ
  file_packet = packet_of (spelling_of p.means.q) file

  abbrev pub count_of : ℕ
  count_of = packets (spelling_of p.means.q) (length file)

  -- after t packets were admitted, those that can be are
  unfoldable pub AdmitsOn : Type 0 → ℕ → ℕ → State S ScriptedLink PlainLink → State S ScriptedLink PlainLink → Type 0
  AdmitsOn C t u σ τ =
      (v : Progress C) (before buffer : List ℕ) (c : Course S ScriptedLink PlainLink) → Follows p file before false t c σ v buffer
      → Follows p file before false u (admit_all_lem 32 p file_packet count_of c) τ v buffer

  module _ {C : Type 0} (before : List ℕ) (c : Course S ScriptedLink PlainLink) (σ : State S ScriptedLink PlainLink) (v : Progress C) (buffer : List ℕ) where
    -- the last packet is admitted, in the round after those made, and what is left follows the sealing
    pub record AllAdmitted (made : ℕ) : Type 0 where
      pub so_far : Course S ScriptedLink PlainLink
      pub follows : Follows p file before false count_of so_far σ v buffer
      pub ends : closing 32 p file_packet count_of (64000 - made) (seal_it 32 p so_far) ≡ rounds 32 p file_packet count_of 64000 c

    -- a course that is all of the other: no round is left
    pub record AllMade (shut : Bool) (t : ℕ) (whole : Course S ScriptedLink PlainLink) : Type 0 where
      pub so_far : Course S ScriptedLink PlainLink
      pub follows : Follows p file before shut t so_far σ v buffer
      pub ends : so_far ≡ whole

    -- after the rounds in which packets were left
    abbrev pub Opened : Option ℕ → Type 0
    Opened (Some made) = AllAdmitted made
    Opened None = (t : ℕ) × AllMade false t (rounds 32 p file_packet count_of 64000 c)

  -- the rounds of an open transfer carry on any course of it that has admitted nothing
  abbrev pub Opens : {C P : Type 0} → Result (Option ℕ) Refusal → Delivery P C S → List ℕ → Delivery P C S → List ℕ → Type 0
  Opens r x before y after =
      (c : Course S ScriptedLink PlainLink) → Follows p file before false 0 c (state_of x.transfer) x.progress before
      → MatchResult r (Opened before c (state_of y.transfer) y.progress after) (λ _. ⊥)

  -- the outcome is that of the rounds, and the buffer as it says
  abbrev pub CarriesOut : S → List ℕ → List ℕ → Result Outcome Refusal → List ℕ → Type 0
  CarriesOut source script before (Ok o) after =
      (o ≡ outcome_of file (course_of p source script file).log)
      × Ends p source script file before after o.ending
  CarriesOut source script before (Err why) after = ⊥

-- the rounds of a sealed transfer of t packets carry on any course of it, of any file, in which so many rounds were made
abbrev pub Closes : {S C P : Type 0} → Parts S ScriptedLink PlainLink → ℕ → ℕ → Result (Unit {0}) Refusal → Delivery P C S → List ℕ → Delivery P C S → List ℕ → Type 0
Closes {S} p made t r x buffer y after =
    (file before : List ℕ) (c : Course S ScriptedLink PlainLink) → Follows p file before true t c (state_of x.transfer) x.progress buffer
    → (r ≡ Ok tt) × AllMade p file before c (state_of y.transfer) y.progress after true t (closing 32 p (file_packet p file) t (64000 - made) c)

-- an outcome of t packets, told by what was kept
abbrev pub outcome_from : {C : Type 0} → List ℕ → ℕ → Progress C → Outcome
outcome_from file t v = record { tally = v.tally; ending = cond (v.heard == t) (Whole (length file)) (Spent v.released) }

-- how the counts stand after the rounds made
abbrev pub SmallAfter : {C : Type 0} → Option ℕ → Progress C → ScriptedLink → Type 0
SmallAfter (Some made) v x = (made < 64000) × Small (4 * made) v x
SmallAfter None v x = Unit {0}
