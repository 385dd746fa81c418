-- How the symbols of a field spell bytes: each symbol is a digit, and a byte is written highest digit first.
use Rattle.std.specs.Prelude.{ℕ, ◌+◌, ◌-◌, ◌*◌, ◌/◌, ◌%◌, ◌^◌, cond, List, map, nat_lt}
use Rattle.std.specs.List.{between, range_with_len}
use Rattle.std.specs.Int.Digits.{number_from_digits}
use Rattle.file.specs.declared.spelling.Spelling.{Spelling}
use Rattle.file.specs.declared.spelling.Spelling.TheVariants.{Bits, Bytes}

-- a symbol is a bit: eight spell a byte
abbrev pub in_bits : Spelling
in_bits = Bits

-- a symbol is a byte
abbrev pub in_bytes : Spelling
in_bytes = Bytes

-- what each symbol is a digit to
abbrev pub base : Spelling → ℕ
base Bits = 2
base Bytes = 256

-- how many symbols spell a byte
abbrev pub digits : Spelling → ℕ
digits Bits = 8
digits Bytes = 1

-- how many bytes the 128 symbols of a packet spell
abbrev pub room : Spelling → ℕ
room Bits = 16
room Bytes = 128

-- in a field of order q a symbol is a byte where every byte is a code, and else a bit
unfoldable pub spelling_of : ℕ → Spelling
spelling_of q = cond (nat_lt q 256) in_bits in_bytes

-- digit i of the n digits of x to the base b, the highest being digit 0
abbrev pub digit : ℕ → ℕ → ℕ → ℕ → ℕ
digit b n x i = x / b ^ (n - 1 - i) % b

-- the n digits of x to the base b, the highest first
unfoldable pub spelled : ℕ → ℕ → ℕ → List ℕ
spelled b n x = map (digit b n x) (range_with_len 0 n)

-- byte i of those that the symbols spell
unfoldable pub byte_of : Spelling → List ℕ → ℕ → ℕ
byte_of s symbols i = number_from_digits (base s) (between (digits s * i) (digits s * (i + 1)) symbols)
