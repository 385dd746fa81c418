-- Streams, and the frames that fit them.
use Rattle.std.specs.Prelude.{◌≡◌, ℕ, zero, suc, ◌<◌, List, slice_index}
use mathlib.Core.List.{Memᴰ}
use Rattle.field.specs.Field.{Means, plus, times}
use Rattle.algebra.specs.Frames.{Codes, Frame}

-- f 0 + .. + f (n - 1)
unfoldable pub sum : Means → ℕ → (ℕ → ℕ) → ℕ
sum m zero f = 0
sum m (suc n) f = plus m (sum m n f) (f n)

module _ (n size : ℕ) (m : Means) where
  -- a stream is n packets of size symbols
  abbrev pub Stream : (ℕ → List ℕ) → Type 0
  Stream s = (k : ℕ) → k < n → Codes m.q size (s k)

  -- at each place, the sum over all packets of coefficient times symbol is the payload's symbol
  abbrev pub Fits : (ℕ → List ℕ) → Frame → Type 0
  Fits s f = (p : ℕ) → p < size → sum m n (λ k. times m (f.row k) (slice_index (s k) p)) ≡ slice_index f.payload p

  -- a stream that fits each of the frames
  pub record Fitting (frames : List Frame) (s : ℕ → List ℕ) : Type 0 where
    pub stream : Stream s
    pub fits : (f : Frame) → Memᴰ f frames → Fits s f

  -- all streams that fit the frames agree on packet k
  abbrev pub Agreed : List Frame → ℕ → Type 0
  Agreed frames k = (s t : ℕ → List ℕ) → Fitting frames s → Fitting frames t → s k ≡ t k
