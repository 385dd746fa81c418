-- What a receiver promises after every log, by the frames that it accepted and the packets that it released.
use Rattle.std.specs.Prelude.{◌≡◌, ℕ, ◌+◌, ◌*◌, ◌<◌, ◌≤◌, List, [], ◌∷◌, length, take, Ok, Err, slice_index}
use Rattle.refusal.specs.declared.Refusal.{Refusal}
use Rattle.refusal.specs.declared.Refusal.TheVariants.{Contradiction}
use Rattle.field.specs.Field.{Means}
use Rattle.carried.specs.Carries.{Carries}
use Rattle.frame.specs.DataFrame.{reading}
use Rattle.frame.specs.declared.data.Data.{Data}
use Rattle.algebra.specs.Combinations.{rows}
use Rattle.algebra.specs.Promises.{RightAnswer, ExactRelease, CountedRelease, OldestUnseen, UnseenBetween}
use Rattle.receiver.specs.Log.{Arrival, said, accepted, released, fresh_count, top}
use Rattle.receiver.specs.declared.state.Answer.{Answer}
use Rattle.receiver.specs.declared.state.Answer.TheVariants.{Fresh}

module _ (m : Means) (carries : Carries) (w : ℕ) where
  -- the row of d decides a call, where r packets were released: the number buffer has room for w packets, the bytes are
  -- read as d, and its row neither begins more than w packets before packet r nor ends more than w packets past it
  pub record Decided (r : ℕ) (a : Arrival) (d : Data) : Type 0 where
    pub room : w * 128 ≤ length a.before
    pub readable : reading m carries w a.frame ≡ Ok d
    pub not_late : r ≤ d.base + w
    pub not_ahead : d.base + d.width ≤ r + w

  -- a call after those of a log
  pub record RightCall (a : Arrival) (log : List Arrival) : Type 0 where
    -- where its row decides, it is answered fresh exactly when that is no combination of the rows accepted before, and
    -- refused as a contradiction exactly when no stream fits its frame and all accepted before
    pub right : (d : Data) → Decided (length (released log)) a d
        → RightAnswer 65536 128 m (accepted carries w log) (said d) ((n : ℕ) × (a.answer ≡ Ok (Fresh n))) (a.answer ≡ Err Contradiction)
    -- it is then refused for nothing else
    pub no_other : (d : Data) → Decided (length (released log)) a d → (e : Refusal) → a.answer ≡ Err e → e ≡ Contradiction
    -- only then is it accepted
    pub only_then : (x : Answer) → a.answer ≡ Ok x → (d : Data) × Decided (length (released log)) a d

  -- the newest call of a log
  abbrev pub RightNewest : List Arrival → Type 0
  RightNewest [] = Unit {0}
  RightNewest (a ∷ log) = RightCall a log

  -- what holds after every log
  pub record Promise (log : List Arrival) : Type 0 where
    pub newest : RightNewest log
    -- some stream fits all accepted frames, and the released packets are those, from packet 0 on, on which all streams
    -- that fit agree, no less and no more
    pub release : ExactRelease 65536 128 m (accepted carries w log) (released log)
    -- where no accepted row reaches past packet t, the first t packets are all released exactly when t answers were fresh
    pub counted : CountedRelease 65536 (accepted carries w log) (fresh_count log) (released log)

  -- a report: how many packets are released, and the oldest that the accepted rows do not show seen
  pub record RightReport (log : List Arrival) (report : ℕ × ℕ) : Type 0 where
    pub count : report.0 ≡ length (released log)
    pub oldest : OldestUnseen 65536 m (rows (accepted carries w log)) report.1

  -- a buffer begins with n numbers in rising order: the packets that the accepted rows do not show seen, from the first that
  -- is not released up to the greatest end of an accepted row
  pub record RightList (log : List Arrival) (n : ℕ) (numbers : List ℕ) : Type 0 where
    pub long : length (take n numbers) ≡ n
    pub unseen : UnseenBetween m (rows (accepted carries w log)) (length (released log)) (top carries w log) (take n numbers)
    pub rising : (i j : ℕ) → i < j → j < n → slice_index numbers i < slice_index numbers j
