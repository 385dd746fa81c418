-- What a job comes to: its counts and its ending, read from the log of its rounds.
use Rattle.std.specs.Prelude.{◌≡◌, ℕ, ◌+◌, ◌-◌, ◌*◌, min, cond, List, [], ◌∷◌, ◌++◌, length, take, drop, Ok, Err, Result, nat_le, nat_lt}
use Rattle.refusal.specs.declared.Refusal.{Refusal}
use Rattle.refusal.specs.declared.Refusal.TheVariants.{ShortBuffer, BadScript, LongFile}
use Rattle.field.specs.Field.{Means}
use Rattle.field.specs.OfBits.{bits}
use Rattle.field.specs.OfBytes.{bytes}
use Rattle.field.specs.OfResidues.{residues}
use Rattle.carried.specs.Carries.{Carries}
use Rattle.carried.specs.Layouts.{eight_a_byte, one_byte, two_bytes}
use Rattle.source.specs.Source.{Draws}
use Rattle.source.specs.OfPlain.{plain as plain-source}
use Rattle.source.specs.OfWoven.{woven}
use Rattle.source.specs.Turn.{start}
use Rattle.source.specs.declared.plain.Plain.{Plain as Turned}
use Rattle.source.specs.declared.woven.Woven.{Woven as Weaving}
use Rattle.link.specs.declared.plain.PlainLink.{PlainLink}
use Rattle.link.specs.declared.scripted.ScriptedLink.{ScriptedLink}
use Rattle.link.specs.OfPlain.{plain}
use Rattle.link.specs.OfScripted.{scripted, new_link}
use Rattle.link.specs.Ring.{empty}
use Rattle.link.specs.Script.{proper}
use Rattle.file.specs.Packets.{packets, packet_of}
use Rattle.file.specs.Spelling.{room, spelling_of}
use Rattle.receiver.specs.Log.{Arrival, released, fresh_count}
use Rattle.receiver.specs.declared.state.Answer.{Answer}
use Rattle.receiver.specs.declared.state.Answer.TheVariants.{Fresh, Repeat}
use Rattle.transfer.specs.Log.{Event, arrivals, sendings}
use Rattle.transfer.specs.Parts.{Parts, parts}
use Rattle.job.specs.declared.line.FieldKind.{FieldKind}
use Rattle.job.specs.declared.line.FieldKind.TheVariants.{Bits, Bytes, Residues}
use Rattle.job.specs.declared.line.SourceKind.{SourceKind}
use Rattle.job.specs.declared.line.SourceKind.TheVariants.{Plain, Woven}
use Rattle.delivery.specs.declared.outcome.Ending.{Ending}
use Rattle.delivery.specs.declared.outcome.Ending.TheVariants.{Whole, Spent}
use Rattle.delivery.specs.declared.outcome.Outcome.{Outcome}
use Rattle.job.specs.declared.tally.Tally.{Tally}
use Rattle.delivery.specs.Rounds.{Course, opening, done, rounds, UsedUp}

-- a repeat counts
abbrev pub repeat_one : Result Answer Refusal → ℕ
repeat_one (Ok (Fresh n)) = 0
repeat_one (Ok Repeat) = 1
repeat_one (Err refusal) = 0

-- how many answers were repeats
abbrev pub repeat_count : List Arrival → ℕ
repeat_count [] = 0
repeat_count (a ∷ log) = repeat_count log + repeat_one a.answer

-- a refusal counts
abbrev pub refused_one : Result Answer Refusal → ℕ
refused_one (Ok answer) = 0
refused_one (Err refusal) = 1

-- how many answers were refusals
abbrev pub refused_count : List Arrival → ℕ
refused_count [] = 0
refused_count (a ∷ log) = refused_count log + refused_one a.answer

-- sends that were not refused, and the answers of fetches that took a frame
abbrev pub tally_of : List Event → Tally
tally_of log = record {
  sent = length (sendings log);
  fresh = fresh_count (arrivals log);
  repeat = repeat_count (arrivals log);
  refused = refused_count (arrivals log);
}

-- whole, with the file's length, where the sender has heard that all is released; else spent, with the count of released packets
abbrev pub ending_of : List ℕ → List Event → Ending
ending_of file log = cond (done log) (Whole (length file)) (Spent (length (released (arrivals log))))

abbrev pub outcome_of : List ℕ → List Event → Outcome
outcome_of file log = record { tally = tally_of log; ending = ending_of file log }

-- a field and a source, with the scripted link forward and the plain link back
abbrev pub linked : {S : Type 0} → Means → Carries → Draws S → Parts S ScriptedLink PlainLink
linked m carries draws = parts m carries draws (scripted 400) (plain 400)

-- how many bytes of a file its first k packets hold, in a field of order q; four others come first
abbrev pub held_bytes : ℕ → List ℕ → ℕ → ℕ
held_bytes q file k = min (length file) (room (spelling_of q) * k - 4)

-- a buffer whose first n bytes are those of the file, and all others as before
abbrev pub written : ℕ → List ℕ → List ℕ → List ℕ
written n file before = take n file ++ drop n before

-- rounds of a job before they begin
unfoldable pub begun : {S : Type 0} → Parts S ScriptedLink PlainLink → S → List ℕ → Course S ScriptedLink PlainLink
begun p source script = opening 32 p source (new_link 16 400 64 script) (empty 16 400)

module _ {S : Type 0} (p : Parts S ScriptedLink PlainLink) (source : S) (script file : List ℕ) where
  -- the rounds of a job, at most 64,000
  unfoldable pub course_of : Course S ScriptedLink PlainLink
  course_of = rounds 32 p (packet_of (spelling_of p.means.q) file) (packets (spelling_of p.means.q) (length file)) 64000 (begun p source script)

  -- all 64,000 rounds were made, and after none of them had the sender heard that all is released
  unfoldable pub RoundsUsedUp : Type 0
  RoundsUsedUp = UsedUp 32 p (packet_of (spelling_of p.means.q) file) (packets (spelling_of p.means.q) (length file)) 64000 (begun p source script)

  -- what an ending says of the buffer, before and after: whole, the file, and then all as before; spent, the bytes of the file
  -- that the released packets hold, and then all as before, and the rounds are used up
  abbrev pub Ends : List ℕ → List ℕ → Ending → Type 0
  Ends before after (Whole n) = after ≡ file ++ drop n before
  Ends before after (Spent r) = (after ≡ written (held_bytes p.means.q file r) file before) × RoundsUsedUp

-- what a transfer is set up with: its parts, and its source before the first draw
pub record Setup : Type 1 where
  pub S : Type 0
  pub parts : Parts S ScriptedLink PlainLink
  pub source : S

-- a field with a source of the kind that is asked for, the woven one with seed 0
abbrev pub with_source : SourceKind → Means → Carries → Setup
with_source Plain m carries = record { S = Turned; parts = linked m carries (plain-source 32); source = record { turn = start } }
with_source Woven m carries = record { S = Weaving; parts = linked m carries (woven 32); source = record { turn = start; v = 0 } }

-- the field and the source of the kinds that are asked for
abbrev pub setup_of : FieldKind → SourceKind → Setup
setup_of Bits source = with_source source bits eight_a_byte
setup_of Bytes source = with_source source bytes one_byte
setup_of Residues source = with_source source residues two_bytes

-- the log of a job's rounds
abbrev pub log_of : FieldKind → SourceKind → List ℕ → List ℕ → List Event
log_of field source script file = let x = setup_of field source in (course_of x.parts x.source script file).log

-- a job that is not refused: the answer is its outcome
abbrev pub ran : FieldKind → SourceKind → List ℕ → List ℕ → ℕ → Result Outcome Refusal
ran field source script file room =
    cond (nat_lt room 16000) (Err ShortBuffer)
    (cond (proper 64 script)
    (cond (nat_le (length file) 16000) (Ok (outcome_of file (log_of field source script file))) (Err LongFile))
    (Err BadScript))

-- what an answer says of the buffer: it is as the ending says, and after a refusal as before
abbrev pub EndsRightly : FieldKind → SourceKind → List ℕ → List ℕ → List ℕ → List ℕ → Result Outcome Refusal → Type 0
EndsRightly field source script file before after (Ok o) =
    let x = setup_of field source in Ends x.parts x.source script file before after o.ending
EndsRightly field source script file before after (Err refusal) = after ≡ before
