-- What the frames that wait on the links say, and what is borne out of the numbers heard.
use Rattle.std.proofs.Common.{◌≡◌, ℕ, ◌+◌, ◌<◌, ◌≤◌, max, ◌&&◌, leb, List, length, Ok, Result, sym, subst, ⊎_elim, arith}
use mathlib.Core.List.{Memᴰ}
use Rattle.std.proofs.lemmas.Bool.{cases_lt, cond_both}
use Rattle.refusal.specs.declared.Refusal.{Refusal}
use Rattle.field.specs.Field.{Means}
use Rattle.carried.specs.Carries.{Carries}
use Rattle.frame.specs.DataFrame.{reading}
use Rattle.frame.specs.ReportFrame.{reading_report}
use Rattle.frame.specs.declared.data.Data.{Data}
use Rattle.algebra.specs.Combinations.{rows, Seen}
use Rattle.algebra.specs.Frames.{Frame}
use Rattle.algebra.specs.Streams.{Fits, Fitting}
use Rattle.sender.specs.Packets.{grown}
use Rattle.sender.specs.Steps.{heeding}
use Rattle.sender.specs.declared.window.Window.{Window}
use Rattle.receiver.specs.Log.{Arrival, said, accepted, released}
use Rattle.transfer.specs.Log.{hearing}
use Rattle.transfer.specs.Steps.{some}
use Rattle.transfer.proofs.Coding.{Coding, coding-more}
use Rattle.transfer.proofs.Ends.{Numbers}

module _ (m : Means) (carries : Carries) (w : ℕ) where
  -- a frame on the data link: it codes packets that were admitted, none past the limit
  pub record Coded (packets : List (List ℕ)) (limit : ℕ) (g : List ℕ) : Type 0 where
    pub says : Data
    pub read : reading m carries w g ≡ Ok says
    pub coding : Coding m packets (said says)
    pub near : says.base + says.width ≤ limit

  -- a frame on the report link: so many packets are released, and all before the oldest unseen are seen
  pub record Reports (calls : List Arrival) (g : List ℕ) : Type 0 where
    pub count : ℕ
    pub oldest : ℕ
    pub read : reading_report g ≡ Ok (count, oldest)
    pub most : count ≤ length (released calls)
    pub seen : (k : ℕ) → k < oldest → Seen m (rows (accepted carries w calls)) k

  -- a frame that was taken: every stream that fits the accepted frames fits it
  abbrev pub Implied : List Arrival → List ℕ → Type 0
  Implied calls g =
      (d : Data) → reading m carries w g ≡ Ok d → (s : ℕ → List ℕ) → Fitting 65536 128 m (accepted carries w calls) s → Fits 65536 128 m s (said d)

  -- what the receiver's calls bear out of the numbers heard
  pub record Borne (calls : List Arrival) (numbers : ℕ × ℕ) : Type 0 where
    pub confirmed : numbers.0 ≤ length (released calls)
    pub trimmed : (k : ℕ) → k < numbers.1 → Seen m (rows (accepted carries w calls)) k

  -- what every log keeps: by the admitted packets, the receiver's calls, the numbers heard, the frames that wait on either
  -- link, and those taken
  pub record Keeps (packets : List (List ℕ)) (calls : List Arrival) (numbers : ℕ × ℕ) (forth back took : List (List ℕ)) : Type 0 where
    pub coding : (f : Frame) → Memᴰ f (accepted carries w calls) → Coding m packets f
    pub borne : Borne calls numbers
    pub coded : (g : List ℕ) → Memᴰ g forth → Coded packets (numbers.0 + w) g
    pub reports : (g : List ℕ) → Memᴰ g back → Reports calls g
    pub implied : (g : List ℕ) → Memᴰ g took → Implied calls g

  -- under a greater limit, and with one more packet admitted
  pub coded_later : (packets : List (List ℕ)) (limit later : ℕ) → limit ≤ later → (g : List ℕ) → Coded packets limit g → Coded packets later g
  coded_later packets limit later l g t = record { says = t.says; read = t.read; coding = t.coding; near = omega (arith, t.near) }

  pub coded-more : (packets : List (List ℕ)) (limit : ℕ) (g : List ℕ) → Coded packets limit g
      → (packet : List ℕ) (r : Result ℕ Refusal) → Coded (grown packets packet r) limit g
  coded-more packets limit g t packet r =
      record { says = t.says; read = t.read; coding = coding-more m packets (said t.says) t.coding packet r; near = t.near }

  -- after an answer of hear the numbers are borne out, and the first is no less
  abbrev pub HeardMore : List Arrival → ℕ × ℕ → Result (ℕ × ℕ) Refusal → Type 0
  HeardMore calls numbers r = Borne calls (hearing (some r) numbers) × (numbers.0 ≤ (hearing (some r) numbers).0)

  pub heard-more : (calls : List Arrival) (numbers : ℕ × ℕ) → Borne calls numbers → (x : Window) → Numbers numbers x
      → (g : List ℕ) → Reports calls g → HeardMore calls numbers (heeding x (reading_report g)).0
  heard-more calls numbers b x same g h =
      subst (λ (r : Result (ℕ × ℕ) Refusal). HeardMore calls numbers (heeding x r).0) (sym h.read)
      (cond_both (leb h.count h.oldest && leb h.oldest x.admitted) _ _
      (λ (z : Result (ℕ × ℕ) Refusal × Window). HeardMore calls numbers z.0)
      (λ _. raised) (λ _. (b, omega arith)))
    where
      raised : HeardMore calls numbers (Ok (max x.heard h.count, max x.unseen h.oldest))
      raised = (
        record {
          confirmed = let a = same.0 in omega (arith, b.confirmed, h.most);
          trimmed = λ k l. ⊎_elim (b.trimmed k) (λ past. h.seen k (let a = same.1 in omega arith)) (cases_lt k numbers.1);
        },
        omega arith,
      )
