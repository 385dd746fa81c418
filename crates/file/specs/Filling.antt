-- What each call on a record answers and leaves. The state is two numbers, the packets taken and the file's length,
-- which is 0 until the first packet is taken.
use Rattle.std.specs.Prelude.{ℕ, ◌+◌, ◌-◌, ◌*◌, ◌/◌, Bool, cond, not, ◌&&◌, List, [], ◌∷◌, map, length, take, drop, Ok, Err, Result, ◌==◌, nat_le, nat_lt, slice_index}
use Rattle.refusal.specs.declared.Refusal.{Refusal}
use Rattle.refusal.specs.declared.Refusal.TheVariants.{ShortBuffer, BadPacket, NotAByte, LongRecord}
use Rattle.std.specs.List.{range_with_len}
use Rattle.field.specs.Lists.{below}
use Rattle.std.specs.Int.Digits.{number_from_digits}
use Rattle.file.specs.declared.spelling.Spelling.{Spelling}
use Rattle.file.specs.Spelling.{base, byte_of, room, spelling_of}

-- all bytes of the file are there; the four of its length come first, so a packet was taken
unfoldable pub complete : Spelling → ℕ → ℕ → Bool
complete s taken size = nat_le (4 + size) (room s * taken)

-- the length that the first packet begins with
unfoldable pub length_in : Spelling → List ℕ → ℕ
length_in s packet = number_from_digits 256 (map (byte_of s packet) (range_with_len 0 4))

-- the file's length once this packet is there
unfoldable pub size_with_packet : Spelling → ℕ → ℕ → List ℕ → ℕ
size_with_packet s taken size packet = cond (taken == 0) (length_in s packet) size

-- the packet after the taken ones holds the file's byte at this place
unfoldable pub holds : Spelling → ℕ → ℕ → ℕ → Bool
holds s taken size place = nat_le (room s * taken) (place + 4) && (nat_lt (place + 4) (room s * taken + room s) && nat_lt place size)

-- the byte at a place of the buffer with the packet
abbrev pub byte_with : Spelling → ℕ → ℕ → List ℕ → List ℕ → ℕ → ℕ
byte_with s taken size packet buffer place = cond (holds s taken size place) (byte_of s packet (place + 4 - room s * taken)) (slice_index buffer place)

-- the buffer with the packet's bytes of the file at their places
unfoldable pub buffer_with : Spelling → ℕ → ℕ → List ℕ → List ℕ → List ℕ
buffer_with s taken size packet buffer = map (byte_with s taken size packet buffer) (range_with_len 0 (length buffer))

-- packet i of those that stand one after another in a list of numbers
abbrev pub packet_in : List ℕ → ℕ → List ℕ
packet_in numbers i = take 128 (drop (128 * i) numbers)

-- an answer, the packets taken, the file's length and the buffer
abbrev pub Outcome : Type 0
Outcome = Result (Unit {0}) Refusal × ℕ × ℕ × List ℕ

-- taking a packet of bytes: past the file's end it changes nothing, a length over 16,000 is refused, all else is written
unfoldable pub taking : Spelling → ℕ → ℕ → List ℕ → List ℕ → Outcome
taking s taken size packet buffer =
    cond (complete s taken size) (Ok tt, taken, size, buffer)
    (cond (nat_lt 16000 (size_with_packet s taken size packet)) (Err LongRecord, taken, size, buffer)
    (Ok tt, taken + 1, size_with_packet s taken size packet, buffer_with s taken (size_with_packet s taken size packet) packet buffer))

-- what a list of numbers is refused for, in a field of order q: that it is no 128 codes, or that these are no digits
unfoldable pub checked : ℕ → List ℕ → Result (Unit {0}) Refusal
checked q packet =
    cond (not (length packet == 128 && below q packet)) (Err BadPacket)
    (cond (not (below (base (spelling_of q)) packet)) (Err NotAByte)
    (Ok tt))

-- adding any list of numbers, in a field of order q
unfoldable pub adding : ℕ → ℕ → ℕ → List ℕ → List ℕ → Outcome
adding q taken size packet buffer =
    cond (nat_lt (length buffer) 16000) (Err ShortBuffer, taken, size, buffer)
    (cond (not (length packet == 128 && below q packet)) (Err BadPacket, taken, size, buffer)
    (cond (not (below (base (spelling_of q)) packet)) (Err NotAByte, taken, size, buffer)
    (taking (spelling_of q) taken size packet buffer)))

-- an answer goes on with the state that it leaves, and a refusal is the last
abbrev pub go_on : Outcome → (ℕ → ℕ → List ℕ → Outcome) → Outcome
go_on before next = elim before.0 [ Ok _ ↦ next before.1 before.2 before.3 | Err _ ↦ before ]

-- adding packets one after another, up to the first refusal
abbrev pub adding_each : ℕ → ℕ → ℕ → List (List ℕ) → List ℕ → Outcome
adding_each q taken size [] buffer = (Ok tt, taken, size, buffer)
adding_each q taken size (packet ∷ packets) buffer = go_on (adding q taken size packet buffer) (λ taken' size' buffer'. adding_each q taken' size' packets buffer')

-- the packets of 128 numbers that stand one after another in a list; what is left at its end is none
unfoldable pub packets_in : List ℕ → List (List ℕ)
packets_in numbers = map (packet_in numbers) (range_with_len 0 (length numbers / 128))
