-- The frames in the bytes of a capture.
use Rattle.std.specs.Prelude.{◌≡◌, ℕ, zero, suc, ◌+◌, ◌*◌, ◌/◌, ◌%◌, cond, List, [], ◌∷◌, ◌++◌, map, length, take, drop, Ok, Err, Result, nat_le}
use denote.Ref.{Bor}
use Rattle.capture.specs.declared.CutShort.{CutShort}
use Rattle.capture.specs.declared.Frames.{Frames}

-- a frame, or that it is cut short
abbrev pub Frame : Type 0
Frame = Result (List ℕ) CutShort

-- at most n frames: a length of two bytes, the highest first, and so many bytes; a frame that is cut short is the last one
abbrev pub frames : ℕ → List ℕ → List Frame
frames zero bs = []
frames (suc n) [] = []
frames (suc n) (high ∷ []) = []
frames (suc n) (high ∷ (low ∷ bs)) =
    let k = 256 * high + low in
    cond (nat_le k (length bs)) (Ok (take k bs) ∷ frames n (drop k bs)) (Err (record {}) ∷ [])

-- all frames, of which there are no more than bytes
unfoldable pub captured : List ℕ → List Frame
captured bs = frames (length bs) bs

-- frames end to end, each behind its length
abbrev pub laid : List (List ℕ) → List ℕ
laid [] = []
laid (f ∷ fs) = length f / 256 ∷ (length f % 256 ∷ (f ++ laid fs))

-- where the bytes are frames that were laid end to end, they are these frames and no others
abbrev pub ComeBack : List ℕ → List Frame → Type 0
ComeBack bs found = (fs : List (List ℕ)) → bs ≡ laid fs → found ≡ map Ok fs

-- the frames that are still to come
abbrev pub left : Frames → List Frame
left s = captured s.rest.now

-- what an item says
abbrev pub shown : Result (Bor (List ℕ)) CutShort → Frame
shown (Ok f) = Ok f.now
shown (Err e) = Err e
