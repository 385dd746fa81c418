-- Data frames: what a frame says, the rules of its contents, and the frame that writing gives.
use Rattle.std.specs.Prelude.{ℕ, ◌+◌, ◌*◌, ◌/◌, Bool, cond, ◌&&◌, List, ◌∷◌, ◌++◌, take, drop, Some, None, Option, Result, nat_le, slice_index}
use Rattle.refusal.specs.declared.Refusal.{Refusal}
use Rattle.refusal.specs.declared.Refusal.TheVariants.{BadWidth, BadCode, StraySlot}
use Rattle.field.specs.Field.{Means}
use Rattle.field.specs.Lists.{below, zeros}
use Rattle.frame.specs.declared.data.Data.{Data}
use Rattle.carried.specs.Carries.{Carries, packed, unpacked}
use Rattle.frame.specs.Head.{misfit, too_short, first, verdict, written, four_bytes, number_at}

-- the width is from 1 to w, and the row ends within the stream of 65536 packets
abbrev pub fits_stream_lem : ℕ → Data → Bool
fits_stream_lem w d = nat_le 1 d.width && nat_le d.width w && nat_le (d.base + d.width) 65536

-- the slots and the symbols are codes
abbrev pub codes_only_lem : ℕ → Data → Bool
codes_only_lem q d = below q d.slots && below q d.symbols

-- the slots from the width on are 0
abbrev pub none_stray_lem : Data → Bool
none_stray_lem d = zeros (drop d.width d.slots)

-- the first rule that a frame's contents break
abbrev pub flaw : ℕ → ℕ → Data → Option Refusal
flaw q w d =
    cond (fits_stream_lem w d)
    (cond (codes_only_lem q d) (cond (none_stray_lem d) None (Some StraySlot)) (Some BadCode))
    (Some BadWidth)

-- how many bytes n codes take
abbrev pub bytes_for : Carries → ℕ → ℕ
bytes_for c n = n / 8 * c.eight

-- the frame of some contents: kind, base, width, slots, symbols
abbrev pub frame_of : Carries → ℕ → Data → List ℕ
frame_of c w d =
    c.kind ∷ four_bytes d.base ++ d.width ∷ packed c (bytes_for c w) d.slots ++ packed c (bytes_for c 128) d.symbols

-- what a base, a width and the bytes of slots and symbols say
abbrev pub contents_by : Carries → ℕ → ℕ → ℕ → List ℕ → Data
contents_by c w base width body = record {
  base = base;
  width = width;
  slots = unpacked c w (take (bytes_for c w) body);
  symbols = unpacked c 128 (drop (bytes_for c w) body);
}

-- what the bytes of a frame say
abbrev pub contents : Carries → ℕ → List ℕ → Data
contents c w bytes = contents_by c w (number_at bytes 1) (slice_index bytes 5) (drop 6 bytes)

-- what reading gives
abbrev pub reading : Means → Carries → ℕ → List ℕ → Result Data Refusal
reading m c w bytes =
    verdict (first (misfit c.kind c.len bytes) (flaw m.q w (contents c w bytes))) (contents c w bytes)

-- what writing answers, and what the buffer then holds
abbrev pub writing : Means → Carries → ℕ → Data → List ℕ → Result ℕ Refusal × List ℕ
writing m c w d buffer =
    written (first (too_short c.len buffer) (flaw m.q w d)) c.len (frame_of c w d) buffer
