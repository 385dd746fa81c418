-- What is proved of frames and streams over every field.
use Rattle.std.specs.Prelude.{◌≡◌, ℕ, ◌+◌, ◌<◌, ◌≤◌, ◌↔◌, List, [], ◌∷◌, length, slice_index, slice_index_or}
use mathlib.Core.List.{Memᴰ}
use Rattle.field.specs.Field.{Means, Laws}
use Rattle.algebra.specs.Frames.{Frame, row_at, Proper}
use Rattle.algebra.specs.Streams.{Fitting, Agreed}
use Rattle.algebra.specs.Combinations.{rows, rows_at, Spanned, Seen, Rank, Independent}
use Rattle.algebra.specs.Promises.{ExactRelease, CountedRelease}

-- Whatever frames some stream fits, there is an exact release of them.
abbrev pub ReleaseExists : Type 0
ReleaseExists =
    (n size : ℕ) → 0 < n → 0 < size → (m : Means) → Laws m → (accepted : List Frame)
    → ((f : Frame) → Memᴰ f accepted → Proper n size m.q f) → (s : ℕ → List ℕ) → Fitting n size m accepted s
    → (released : List (List ℕ)) × ExactRelease n size m accepted released

-- What is exactly released is settled by the streams that fit, whatever the frames were and in whatever order they came.
abbrev pub ReleaseIsDetermined : Type 0
ReleaseIsDetermined =
    (n size : ℕ) (m : Means) (accepted others : List Frame) (released packets : List (List ℕ))
    → ((s : ℕ → List ℕ) → Fitting n size m accepted s ↔ Fitting n size m others s)
    → ExactRelease n size m accepted released → ExactRelease n size m others packets → released ≡ packets

-- Whether an exact release is complete shows in the count of the fresh rows.
abbrev pub ReleaseIsCounted : Type 0
ReleaseIsCounted =
    (n size : ℕ) → 0 < n → 0 < size → (m : Means) → Laws m → (accepted : List Frame)
    → ((f : Frame) → Memᴰ f accepted → Proper n size m.q f) → (released : List (List ℕ)) → ExactRelease n size m accepted released
    → (fresh : ℕ) → Rank m (rows accepted) fresh → CountedRelease n accepted fresh released

-- Take a window of v packets from u on, every packet below it seen, no accepted row past it. Where v independent draws of
-- slots, put at the window, are combinations of the accepted rows, all streams that fit agree up to the window's end.
abbrev pub WindowDecodes : Type 0
WindowDecodes =
    (n size : ℕ) (m : Means) → Laws m → (accepted : List Frame) (u v : ℕ) → u + v ≤ n
    → ((k : ℕ) → k < u → Seen m (rows accepted) k)
    → ((f : Frame) → Memᴰ f accepted → (k : ℕ) → u + v ≤ k → f.row k ≡ 0)
    → (draws : List (List ℕ)) → length draws ≡ v → Independent m (rows_at 0 draws)
    → ((slots : List ℕ) → Memᴰ slots draws → Spanned m (rows accepted) (row_at u slots))
    → (k : ℕ) → k < u + v → Agreed n size m accepted k

-- Draws that end with 1, each in a slot of its own, are independent.
abbrev pub EndsApartIndependent : Type 0
EndsApartIndependent =
    (m : Means) → Laws m → (draws : List (List ℕ)) (last : ℕ → ℕ) (bound : ℕ)
    → ((i : ℕ) → i < length draws → last i < bound)
    → ((i j : ℕ) → i < length draws → j < length draws → last i ≡ last j → i ≡ j)
    → ((i : ℕ) → i < length draws → slice_index (slice_index_or draws i []) (last i) ≡ 1)
    → ((i k : ℕ) → i < length draws → last i < k → slice_index (slice_index_or draws i []) k ≡ 0)
    → Independent m (rows_at 0 draws)

-- One more row spans itself, and leaves what was spanned spanned and what was seen seen.
pub record Grown (m : Means) (x : ℕ → ℕ) (xs : List (ℕ → ℕ)) : Type 0 where
  pub itself : Spanned m (x ∷ xs) x
  pub spanned : (y : ℕ → ℕ) → Spanned m xs y → Spanned m (x ∷ xs) y
  pub seen : (k : ℕ) → Seen m xs k → Seen m (x ∷ xs) k

abbrev pub SpansGrow : Type 0
SpansGrow = (m : Means) → Laws m → (x : ℕ → ℕ) → ((k : ℕ) → x k < m.q) → (xs : List (ℕ → ℕ)) → Grown m x xs
