-- How the queue of a plain link lies in memory: in a ring, whose size is that of its array.
use Rattle.std.specs.Prelude.{ℕ, ◌+◌, ◌-◌, ◌%◌, min, cond, List, [], ◌∷◌, ◌++◌, map, length, take, drop, replicate, Some, None, Option, nat_le, nat_lt, slice_index_or, slice_set}
use Rattle.std.specs.List.{range_with_len}
use Rattle.link.specs.declared.stored.Stored.{Stored}
use Rattle.link.specs.declared.plain.PlainLink.{PlainLink}

-- the frame that an entry holds, which is never longer than the limit
abbrev pub frame : ℕ → Stored → List ℕ
frame limit s = take (min s.length limit) s.bytes

-- a frame, written over the zeros of an entry
unfoldable pub padded : ℕ → List ℕ → List ℕ
padded limit f = f ++ drop (length f) (replicate limit 0)

-- the entry of a frame
abbrev pub entry : ℕ → List ℕ → Stored
entry limit f = record { bytes = padded limit f; length = length f }

-- the entry of a frame that is not longer than the limit
abbrev pub entry_of : ℕ → List ℕ → Option Stored
entry_of limit f = cond (nat_le (length f) limit) (Some (entry limit f)) None

-- what would stand past the end of the ring, where no place lies
abbrev pub nothing : Stored
nothing = record { bytes = []; length = 0 }

-- a queue with room for size, and nothing in it
abbrev pub empty : ℕ → ℕ → PlainLink
empty size limit = record { frames = replicate size (entry limit []); first = 0; count = 0 }

-- where entry i of a queue lies
abbrev pub place_of : PlainLink → ℕ → ℕ
place_of q i = (q.first % length q.frames + i) % length q.frames

-- the frames of a queue, the first one first
abbrev pub queued : ℕ → PlainLink → List (List ℕ)
queued limit q = map (λ i. frame limit (slice_index_or q.frames (place_of q i) nothing)) (range_with_len 0 q.count)

-- the queue after an entry is put at its end, unless it is full
abbrev pub pushed : PlainLink → Stored → PlainLink
pushed q s =
    cond (nat_lt q.count (length q.frames))
    (record { frames = slice_set q.frames (place_of q q.count) s; first = q.first; count = q.count + 1 })
    q

-- some entries are put at its end, one after another
abbrev pub pushed_by : PlainLink → List Stored → PlainLink
pushed_by q [] = q
pushed_by q (s ∷ ss) = pushed_by (pushed q s) ss

-- the first entry of a queue, if it has one
abbrev pub front : PlainLink → Option Stored
front q = cond (nat_lt 0 q.count) (Some (slice_index_or q.frames (place_of q 0) nothing)) None

-- the queue after its first entry has left, if it had one
abbrev pub popped : PlainLink → PlainLink
popped q = cond (nat_lt 0 q.count) (record { frames = q.frames; first = place_of q 1; count = q.count - 1 }) q
