-- What a receiver promises of the frames that it accepted, the newest first, and of the packets that it released.
use Rattle.std.specs.Prelude.{◌≡◌, ℕ, ◌<◌, ◌≤◌, ◌↔◌, List, [], ◌∷◌, length, slice_index, slice_index_or}
use mathlib.Core.List.{Memᴰ}
use Rattle.field.specs.Field.{Means}
use Rattle.algebra.specs.Frames.{Frame}
use Rattle.algebra.specs.Streams.{Fitting, Agreed}
use Rattle.algebra.specs.Combinations.{rows, Spanned, Seen}

module _ (n size : ℕ) (m : Means) where
  -- no stream fits the frame and all accepted before it
  abbrev pub Contradicts : List Frame → Frame → Type 0
  Contradicts accepted f = (s : ℕ → List ℕ) → Fitting n size m (f ∷ accepted) s → ⊥

  -- the answer to one more frame is fresh exactly when its row is no combination of the rows accepted before, and it
  -- refuses the frame as a contradiction exactly when it contradicts them
  pub record RightAnswer (accepted : List Frame) (f : Frame) (Fresh Refused : Type 0) : Type 0 where
    pub fresh : Fresh ↔ (Spanned m (rows accepted) f.row → ⊥)
    pub refused : Refused ↔ Contradicts accepted f

  -- what is released is what the accepted frames show, no less and no more
  pub record ExactRelease (accepted : List Frame) (released : List (List ℕ)) : Type 0 where
    -- some stream fits all accepted frames
    pub consistent : (s : ℕ → List ℕ) × Fitting n size m accepted s
    -- released packet k is packet k of every stream that fits
    pub right : (s : ℕ → List ℕ) → Fitting n size m accepted s → (k : ℕ) → k < length released → slice_index_or released k [] ≡ s k
    pub most : length released ≤ n
    -- packet k is released exactly when all streams that fit agree on it and on every packet before
    pub exactly : (k : ℕ) → k < n → (k < length released) ↔ ((j : ℕ) → j ≤ k → Agreed n size m accepted j)

-- where all accepted rows are 0 from t on, the first t packets are all released exactly when t rows were fresh
abbrev pub CountedRelease : ℕ → List Frame → ℕ → List (List ℕ) → Type 0
CountedRelease n accepted fresh released =
    (t : ℕ) → t ≤ n → ((f : Frame) → Memᴰ f accepted → (k : ℕ) → t ≤ k → f.row k ≡ 0)
    → (length released ≡ t) ↔ (fresh ≡ t)

-- u is the oldest packet that the rows do not show seen, or n where they show all seen
pub record OldestUnseen (n : ℕ) (m : Means) (xs : List (ℕ → ℕ)) (u : ℕ) : Type 0 where
  pub most : u ≤ n
  pub seen : (k : ℕ) → k < u → Seen m xs k
  pub unseen : u < n → Seen m xs u → ⊥

-- the list has each number from a up to b - 1 that the rows do not show seen, once, and no other
pub record UnseenBetween (m : Means) (xs : List (ℕ → ℕ)) (a b : ℕ) (listed : List ℕ) : Type 0 where
  pub exactly : (k : ℕ) → Memᴰ k listed ↔ ((a ≤ k) × (k < b) × (Seen m xs k → ⊥))
  pub once : (i j : ℕ) → i < length listed → j < length listed → slice_index listed i ≡ slice_index listed j → i ≡ j
