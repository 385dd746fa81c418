-- The field of bits.
use Rattle.std.specs.Int.Bits.{bit_and, bit_xor}
use Rattle.field.specs.Field.{Means}

-- sum and difference are exclusive or, product is and, and 1 is its own inverse
abbrev pub bits : Means
bits = record { q = 2; add = bit_xor; sub = bit_xor; mul = bit_and; inv = λ a. a }
