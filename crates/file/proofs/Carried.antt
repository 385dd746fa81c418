-- A packet of a file: 128 codes, which spell the bytes that it carries.
use Rattle.std.proofs.Common.{◌≡◌, ℕ, ◌+◌, ◌*◌, ◌/◌, ◌%◌, ◌<◌, ◌≤◌, List, map, length, get_or, ap, ◌∙◌, mod-lt, arith, lit<}
use Rattle.std.specs.List.{between, range_with_len}
use Rattle.std.specs.Int.Digits.{number_from_digits, AllBelowBase}
use Rattle.std.proofs.lemmas.List.FromFn.{fill_by_all, get_or-map-range_with_len, length-map-range_with_len}
use Rattle.std.proofs.lemmas.List.Edits.{get_or-between}
use Rattle.std.proofs.ByRecursion.{All-from_get_or, All-weaker}
use Rattle.file.specs.declared.spelling.Spelling.{Spelling}
use Rattle.file.specs.declared.spelling.Spelling.TheVariants.{Bits, Bytes}
use Rattle.file.specs.Filled.{File}
use Rattle.file.specs.Filling.{length_in}
use Rattle.file.specs.Packets.{loaded, packet_of, symbol_of}
use Rattle.file.specs.Spelling.{base, byte_of, digit, digits, room, spelled, spelling_of}
use Rattle.file.proofs.Counts.{room-least}
use Rattle.file.proofs.Numbers.{length_part, number_spelled, whole_byte}
use Rattle.file.proofs.Loads.{length_byte, loaded_byte, loaded-length}
use Rattle.file.proofs.Spellings.{base-code}

pub packet-length : (s : Spelling) (file : List ℕ) (k : ℕ) → length (packet_of s file k) ≡ 128
unfolding packet_of
packet-length s file k = length-map-range_with_len (symbol_of s file k) 0 128

packet_symbol : (s : Spelling) (file : List ℕ) (k i : ℕ) → i < 128 → get_or (packet_of s file k) i 0 ≡ symbol_of s file k i
unfolding packet_of
packet_symbol s file k i h = get_or-map-range_with_len (symbol_of s file k) 0 128 i i 0 h (omega arith)

base_pos : (s : Spelling) → 0 < base s
base_pos Bits = lit< tt
base_pos Bytes = lit< tt

-- each symbol is a digit
pub packet-digits : (s : Spelling) → (file : List ℕ) (k : ℕ) → AllBelowBase (base s) (packet_of s file k)
packet-digits s file k =
    All-from_get_or (λ x. x < base s) (packet_of s file k) 0
    (λ i h.
    let m : symbol_of s file k i < base s = mod-lt _ (base_pos s) in
    omega (arith, m, packet_symbol s file k i (omega (arith, packet-length s file k))))

-- and so a code
pub packet-codes : (q : ℕ) → 2 ≤ q → (file : List ℕ) (k : ℕ) → AllBelowBase q (packet_of (spelling_of q) file k)
packet-codes q two file k =
    All-weaker (λ x. x < base (spelling_of q)) (λ x. x < q) (λ x h. omega (arith, base-code q two)) (packet_of (spelling_of q) file k)
    (packet-digits (spelling_of q) file k)

-- symbol i of those of byte j
at_byte : (s : Spelling) → (j i : ℕ) → j < room s → i < digits s
    → (digits s * j + i < digits s * (j + 1)) × (digits s * j + i < 128) × ((digits s * j + i) / digits s ≡ j) × ((digits s * j + i) % digits s ≡ i)
at_byte Bits j i h l = (omega arith, omega arith, omega arith, omega arith)
at_byte Bytes j i h l = (omega arith, omega arith, omega arith, omega arith)

-- the symbols of byte j of packet k spell it
pub packet_part : (s : Spelling) → (file : List ℕ) (k j : ℕ) → j < room s
    → between (digits s * j) (digits s * (j + 1)) (packet_of s file k) ≡ spelled (base s) (digits s) (get_or (loaded file) (room s * k + j) 0)
unfolding spelled
packet_part s file k j h =
    let d = digits s in
    let x = get_or (loaded file) (room s * k + j) 0 in
    fill_by_all (digit (base s) d x) _ d 0 (length_part s (packet_of s file k) j (packet-length s file k) h)
    (λ i l.
    let a = at_byte s j i h l in
    get_or-between (packet_of s file k) (d * j) (d * (j + 1)) i 0 a.0
    ∙ packet_symbol s file k (d * j + i) a.1
    ∙ ap (λ (t : ℕ). digit (base s) d (get_or (loaded file) (room s * k + t) 0) ((d * j + i) % d)) a.2
    ∙ ap (digit (base s) d x) a.3)

-- byte j of packet k
pub packet_byte : (s : Spelling) → (file : List ℕ) → File file → (k j : ℕ) → j < room s → byte_of s (packet_of s file k) j ≡ get_or (loaded file) (room s * k + j) 0
unfolding byte_of
packet_byte s file f k j h =
    ap (number_from_digits (base s)) (packet_part s file k j h)
    ∙ number_spelled (base s) (digits s) _ (omega (arith, whole_byte s, loaded_byte file f (room s * k + j)))

zero_room : (r i : ℕ) → r * 0 + i ≡ i
zero_room r i = omega arith

-- the first packet begins with the file's length
pub packet-first : (s : Spelling) → (file : List ℕ) → File file → length_in s (packet_of s file 0) ≡ length file
unfolding length_in spelled
packet-first s file f =
    let n = length file in
    let p = byte_of s (packet_of s file 0) in
    ap (number_from_digits 256)
    (fill_by_all (digit 256 4 n) (map p (range_with_len 0 4)) 4 0 (length-map-range_with_len p 0 4)
    (λ i h.
    get_or-map-range_with_len p 0 4 i i 0 h (omega arith)
    ∙ packet_byte s file f 0 i (omega (arith, room-least s))
    ∙ ap (λ (j : ℕ). get_or (loaded file) j 0) (zero_room (room s) i)
    ∙ loaded-length file i h
    ∙ length_byte n i h))
    ∙ number_spelled 256 4 n (omega (arith, f.short))
