-- What does not meet the promises: answers that are wrong, each refused, and that a right answer is the only one.
use Rattle.std.specs.Prelude.{◌≡◌, ℕ, ◌+◌, ◌-◌, List, [], ◌∷◌, length, take, replicate, Some, Ok, Result, ◌≢◌}
use Rattle.refusal.specs.declared.Refusal.{Refusal}
use Rattle.field.specs.Field.{Means, Laws}
use Rattle.field.specs.OfBits.{bits}
use Rattle.carried.specs.Carries.{Carries}
use Rattle.carried.specs.Layouts.{eight_a_byte}
use Rattle.frame.specs.declared.data.Data.{Data}
use Rattle.algebra.specs.Combinations.{Spanned, Seen}
use Rattle.algebra.specs.Frames.{Codes, Frame, row_at, frame_at}
use Rattle.algebra.specs.Promises.{ExactRelease, CountedRelease, OldestUnseen}
use Rattle.algebra.specs.Streams.{Fits}
use Rattle.receiver.specs.Log.{Arrival, call, released, wrote}
use Rattle.receiver.specs.Promise.{Decided, Promise, RightReport, RightList}
use Rattle.receiver.specs.declared.state.Answer.{Answer}
use Rattle.receiver.specs.declared.state.Answer.TheVariants.{Fresh, Repeat}
use Rattle.source.specs.Source.{Draws, DrawsLaws}
use Rattle.link.specs.Link.{Carries as Link-means, CarriesLaws as Link-laws}
use Rattle.link.specs.Queue.{first_of}
use Rattle.transfer.specs.Log.{admit, send, fetch, hear}
use Rattle.transfer.specs.Promise.{Delivery}
use Rattle.file.specs.Filled.{FilledOver}
use Rattle.file.specs.Spelling.{in_bytes}
use Rattle.examples.specs.Words.{slots, packet, bit_frame, buffer}

-- a source that draws zeros only, whatever it keeps
abbrev pub zero_source : (ℕ → ℕ → ℕ → ℕ) → Draws ℕ
zero_source next = record { slots = λ x q n. slots []; next = next }

-- a link on which nothing ever waits, and a take of which answers a frame all the same
abbrev pub inventing : List ℕ → Link-means ℕ
inventing f = record { waiting = λ x. []; put = λ x g. x; first = λ x. Some f; rest = λ x. x }

-- a queue of frames of one byte 0, which such a frame joins whatever frame is put
abbrev pub replacing : Link-means ℕ
replacing = record {
  waiting = λ n. replicate n (0 ∷ []);
  put = λ n f. n + 1;
  first = λ n. first_of (replicate n (0 ∷ []));
  rest = λ n. n - 1;
}

-- what the words of the algebra refuse, in every field
pub record WordsRefuse (m : Means) : Type 0 where
  -- a stream of zeros does not fit a frame that says that packet 0 is ones
  pub unfit : Fits 65536 128 m (λ k. packet 0) (frame_at 0 (1 ∷ []) (packet 1)) → ⊥
  -- the sum of packets 0 and 1 does not show packet 1 seen
  pub unseen : Seen m (row_at 0 (1 ∷ 1 ∷ []) ∷ []) 1 → ⊥
  -- nor is packet 1 alone a multiple of it
  pub unspanned : Spanned m (row_at 0 (1 ∷ 1 ∷ []) ∷ []) (row_at 0 (0 ∷ 1 ∷ [])) → ⊥

-- which releases are not exact, in every field
pub record ReleasesRefuse (m : Means) : Type 0 where
  -- the one accepted frame says what packet 0 is, and nothing is released
  pub withheld : (p : List ℕ) → Codes m.q 128 p → ExactRelease 65536 128 m (frame_at 0 (1 ∷ []) p ∷ []) [] → ⊥
  -- it says so, and another packet is released, whatever follows it
  pub falsified : (p y : List ℕ) (rest : List (List ℕ)) → Codes m.q 128 p → (y ≢ p)
      → ExactRelease 65536 128 m (frame_at 0 (1 ∷ []) p ∷ []) (y ∷ rest) → ⊥
  -- the one accepted frame says that packets 0 and 1 add up to ones, which streams with different packets 0 do, and a packet
  -- is released
  pub guessed : (y : List ℕ) (rest : List (List ℕ))
      → ExactRelease 65536 128 m (frame_at 0 (1 ∷ 1 ∷ []) (packet 1) ∷ []) (y ∷ rest) → ⊥
  -- two frames say that packet 0 is one thing and another, and both are accepted, whatever is released
  pub contradictory : (p y : List ℕ) (released : List (List ℕ)) → Codes m.q 128 p → Codes m.q 128 y → (y ≢ p)
      → ExactRelease 65536 128 m (frame_at 0 (1 ∷ []) y ∷ frame_at 0 (1 ∷ []) p ∷ []) released → ⊥
  -- the one accepted frame says what packet 0 is, was fresh, and nothing is released: the count shows it too
  pub miscounted : (p : List ℕ) → CountedRelease 65536 (frame_at 0 (1 ∷ []) p ∷ []) 1 [] → ⊥

-- what is right is the only right thing, whatever the field and the frames
pub record RightIsOne (m : Means) : Type 0 where
  -- two exact releases of the same frames are equal
  pub release : (accepted : List Frame) (released packets : List (List ℕ))
      → ExactRelease 65536 128 m accepted released → ExactRelease 65536 128 m accepted packets → released ≡ packets
  -- rows have one oldest unseen packet
  pub oldest : (xs : List (ℕ → ℕ)) (u v : ℕ) → OldestUnseen 65536 m xs u → OldestUnseen 65536 m xs v → u ≡ v
  -- after a log there is one right report
  pub report : (carries : Carries) (w : ℕ) (log : List Arrival) (x y : ℕ × ℕ)
      → RightReport m carries w log x → RightReport m carries w log y → x ≡ y
  -- one right list of the missing
  pub missing : (carries : Carries) (w : ℕ) (log : List Arrival) (n k : ℕ) (xs ys : List ℕ)
      → RightList m carries w log n xs → RightList m carries w log k ys → (n ≡ k) × (take n xs ≡ take k ys)
  -- a frame whose row decides has one answer that meets the promise, and one release
  pub answer : (carries : Carries) (w : ℕ) (log : List Arrival) (frame before : List ℕ) (d : Data)
      (a b : Result Answer Refusal) (x y : List ℕ)
      → Decided m carries w (length (released log)) (call frame before a x) d
      → Promise m carries w (call frame before a x ∷ log) → Promise m carries w (call frame before b y ∷ log)
      → (a ≡ b) × (released (call frame before a x ∷ log) ≡ released (call frame before b y ∷ log))

-- which logs of a transfer show no delivery, whatever the field and the layout
pub record DeliveriesRefuse (m : Means) (carries : Carries) (w : ℕ) : Type 0 where
  -- zeros and then ones were admitted, and ones came out first
  pub swapped : (frame before : List ℕ)
      → Delivery m carries w
      (fetch (Some frame) before (Ok (Some (Fresh 1))) (packet 1) ∷ admit (packet 1) (Ok 2) ∷ admit (packet 0) (Ok 1) ∷ []) → ⊥
  -- the sender dropped the packet, and no frame had been accepted
  pub forgotten : (report : List ℕ) → Delivery m carries w (hear (Some report) (Ok (Some (0, 1))) ∷ admit (packet 0) (Ok 1) ∷ []) → ⊥
  -- the sender heard that the packet was released, and nothing was
  pub boasted : (report : List ℕ) → Delivery m carries w (hear (Some report) (Ok (Some (1, 0))) ∷ admit (packet 0) (Ok 1) ∷ []) → ⊥
  -- as many answers were fresh as packets admitted, and nothing was released
  pub unfinished : (frame before after : List ℕ)
      → Delivery m carries w (fetch (Some frame) before (Ok (Some (Fresh 0))) after ∷ admit (packet 0) (Ok 1) ∷ []) → ⊥
  -- the frame that codes the one packet was taken, and nothing was released
  pub stalled : (frame before after : List ℕ) (size : ℕ)
      → Delivery m carries w
      (fetch (Some frame) before (Ok (Some Repeat)) after ∷ send frame (Ok size) ∷ admit (packet 0) (Ok 1) ∷ []) → ⊥

pub record WrongAnswersRefused : Type 0 where
  pub words : (m : Means) → Laws m → WordsRefuse m
  pub releases : (m : Means) → Laws m → ReleasesRefuse m
  pub one : (m : Means) → RightIsOne m
  -- a new receiver, and a frame in bits that says that packet 0 is ones: no answer but one meets the promise
  pub first_answer : (a : Result Answer Refusal) (after : List ℕ)
      → Promise bits eight_a_byte 32 (call (bit_frame 0 (1 ∷ []) 1) buffer a after ∷ [])
      → (a ≡ Ok (Fresh 1)) × (wrote a after ≡ packet 1 ∷ [])
  -- a source of zeros does not keep the laws of a source
  pub zeros_drawn : (next : ℕ → ℕ → ℕ → ℕ) → DrawsLaws 32 (zero_source next) → ⊥
  -- a link that makes up a frame, whatever frame that is, does not keep the laws of a link, nor does one that replaces frames
  pub invented : (f : List ℕ) → Link-laws 400 (inventing f) → ⊥
  pub replaced : Link-laws 400 replacing → ⊥
  pub deliveries : (m : Means) (carries : Carries) (w : ℕ) → DeliveriesRefuse m carries w
  -- a record with another byte than the file has, or of another length, is not filled with the file's packet, nor is one whose
  -- buffer was changed behind the file
  pub wrong_byte : (before rest : List ℕ) → FilledOver in_bytes (7 ∷ 9 ∷ []) 1 1 2 before (7 ∷ 8 ∷ rest) → ⊥
  pub wrong_length : (size : ℕ) (before buffer : List ℕ) → (size ≢ 2) → FilledOver in_bytes (7 ∷ 9 ∷ []) 1 1 size before buffer → ⊥
  pub wrong_rest : FilledOver in_bytes (7 ∷ 9 ∷ []) 1 1 2 (0 ∷ 0 ∷ 5 ∷ []) (7 ∷ 9 ∷ 6 ∷ []) → ⊥
