-- The packets of a file, which is a list of bytes.
use Rattle.std.specs.Prelude.{ℕ, ◌+◌, ◌-◌, ◌*◌, ◌/◌, ◌%◌, List, ◌++◌, map, length, slice_index}
use Rattle.std.specs.List.{range_with_len}
use Rattle.file.specs.declared.spelling.Spelling.{Spelling}
use Rattle.file.specs.Spelling.{base, digit, digits, room, spelled}

-- what the packets hold before the zero bytes: the file's length in four bytes, the highest first, then the file
unfoldable pub loaded : List ℕ → List ℕ
loaded file = spelled 256 4 (length file) ++ file

-- how many packets a file of n bytes takes: the least number with room for 4 + n bytes
unfoldable pub packets : Spelling → ℕ → ℕ
packets s n = (4 + n + (room s - 1)) / room s

-- symbol i of packet k: a digit of the byte that it helps to spell, which past the file's end is 0
abbrev pub symbol_of : Spelling → List ℕ → ℕ → ℕ → ℕ
symbol_of s file k i = digit (base s) (digits s) (slice_index (loaded file) (room s * k + i / digits s)) (i % digits s)

-- packet k of the file
unfoldable pub packet_of : Spelling → List ℕ → ℕ → List ℕ
packet_of s file k = map (symbol_of s file k) (range_with_len 0 128)
