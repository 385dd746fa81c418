-- What the program keeps of a job's course.
use Rattle.std.specs.Prelude.{◌≡◌, ℕ, ◌+◌, ◌*◌, ◌<◌, ◌≤◌, Bool, List, [], length, Ok, Result, slice_index_or}
use Rattle.refusal.specs.declared.Refusal.{Refusal}
use Rattle.link.specs.declared.plain.PlainLink.{PlainLink}
use Rattle.link.specs.declared.scripted.ScriptedLink.{ScriptedLink}
use Rattle.file.specs.Filled.{File, FilledOver}
use Rattle.file.specs.Packets.{packets, packet_of}
use Rattle.file.specs.Spelling.{spelling_of}
use Rattle.job.specs.Counts.{answered_with, released_by}
use Rattle.receiver.specs.Log.{released}
use Rattle.receiver.specs.declared.state.Answer.{Answer}
use Rattle.transfer.specs.Log.{Event, arrivals, admitted, heard}
use Rattle.transfer.specs.Parts.{Parts, State}
use Rattle.transfer.specs.Run.{Run}
use Rattle.transfer.specs.Calls.{state_of}
use Rattle.delivery.specs.declared.exchange.Delivery.{Delivery}
use Rattle.delivery.specs.declared.progress.Progress.{Progress}
use Rattle.delivery.specs.Outcome.{tally_of}
use Rattle.delivery.specs.Rounds.{Course, sealed}

-- the packets are the first t of the file
pub record FirstPackets (q : ℕ) (file : List ℕ) (t : ℕ) (list : List (List ℕ)) : Type 0 where
  pub count : length list ≡ t
  pub few : t ≤ packets (spelling_of q) (length file)
  pub each : (k : ℕ) → k < t → slice_index_or list k [] ≡ packet_of (spelling_of q) file k

-- the log is one of a transfer that began on links where nothing waited, and leads to this state; t packets of the file are
-- admitted, and the transfer is sealed or not
pub record Runs {S : Type 0} (p : Parts S ScriptedLink PlainLink) (file : List ℕ) (shut : Bool) (t : ℕ) (log : List Event) (σ : State S ScriptedLink PlainLink) : Type 0 where
  pub source : S
  pub forward : ScriptedLink
  pub reverse : PlainLink
  pub none_forth : p.forward.waiting forward ≡ []
  pub none_back : p.reverse.waiting reverse ≡ []
  pub run : Run 32 p source forward reverse log σ
  pub is_sealed : sealed log ≡ shut
  pub is_file : File file
  pub stream : FirstPackets p.means.q file t (admitted log)

-- a course of the file, of which this is the transfer, what was kept of its answers, and the file buffer before and now
pub record Follows {S C : Type 0} (p : Parts S ScriptedLink PlainLink) (file before : List ℕ) (shut : Bool) (t : ℕ) (c : Course S ScriptedLink PlainLink) (σ : State S ScriptedLink PlainLink) (v : Progress C) (buffer : List ℕ) : Type 0 where
  pub state : c.state ≡ σ
  pub numbers : c.numbers ≡ v.numbers
  pub runs : Runs p file shut t c.log σ
  pub heard : (heard c.log).0 ≡ v.heard
  pub tally : v.tally ≡ tally_of c.log
  pub releases : length (released (arrivals c.log)) ≡ v.released
  pub filled : FilledOver (spelling_of p.means.q) file v.released v.filling.taken v.filling.size before buffer

-- whatever course has led here, of any file, the next step of it leads there
unfoldable pub Leads : {S C P : Type 0} → Parts S ScriptedLink PlainLink → (ℕ → Parts S ScriptedLink PlainLink → Course S ScriptedLink PlainLink → Course S ScriptedLink PlainLink)
    → Delivery P C S → List ℕ → Delivery P C S → List ℕ → Type 0
Leads {S} p step x buffer y after =
    (file before : List ℕ) (shut : Bool) (t : ℕ) (c : Course S ScriptedLink PlainLink) → Follows p file before shut t c (state_of x.transfer) x.progress buffer
    → Follows p file before shut t (step 32 p c) (state_of y.transfer) y.progress after

-- the same of a step that could have been refused, and was not
unfoldable pub LeadsOn : {S C P : Type 0} → Parts S ScriptedLink PlainLink → (ℕ → Parts S ScriptedLink PlainLink → Course S ScriptedLink PlainLink → Course S ScriptedLink PlainLink)
    → Result (Unit {0}) Refusal → Delivery P C S → List ℕ → Delivery P C S → List ℕ → Type 0
LeadsOn {S} p step r x buffer y after =
    (file before : List ℕ) (shut : Bool) (t : ℕ) (c : Course S ScriptedLink PlainLink) → Follows p file before shut t c (state_of x.transfer) x.progress buffer
    → (r ≡ Ok tt) × Follows p file before shut t (step 32 p c) (state_of y.transfer) y.progress after

-- an answer of a fetch was kept: it is counted, and all but the record is as before
pub record Keeps {C : Type 0} (answer : Result Answer Refusal) (v u : Progress C) : Type 0 where
  pub heard : u.heard ≡ v.heard
  pub numbers : u.numbers ≡ v.numbers
  pub tally : u.tally ≡ answered_with answer v.tally
  pub released : u.released ≡ v.released + released_by answer

-- the counts are small, and stay so as frames that wait are fetched
pub record Small {C : Type 0} (n : ℕ) (v : Progress C) (x : ScriptedLink) : Type 0 where
  pub few : v.tally.sent + (v.tally.fresh + (v.tally.repeat + (v.tally.refused + x.queue.count))) ≤ n
  pub released : v.released ≤ 32 * v.tally.fresh
