-- The field of bytes: polynomials over bits, bit i of a number standing for power i, reduced by 0x11D.
use Rattle.std.specs.Prelude.{ℕ, zero, suc, ◌+◌, ◌*◌, ◌/◌, ◌%◌, ◌^◌, bit_xor}
use Rattle.field.specs.Field.{Means}

-- the product of two polynomials: each of the first k bits of b that is 1 adds a, moved up by its place
abbrev pub carryless : ℕ → ℕ → ℕ → ℕ
carryless zero a b = 0
carryless (suc k) a b = bit_xor (b % 2 * a) (carryless k (a * 2) (b / 2))

-- the remainder by 0x11D of a polynomial of degree below 8 + k: from the highest power down, a multiple of 0x11D
-- is taken away where that power stands
abbrev pub reduced : ℕ → ℕ → ℕ
reduced zero p = p
reduced (suc k) p = reduced k (bit_xor p (p / 2 ^ (8 + k) % 2 * (0x11D * 2 ^ k)))

-- the product of two bytes
unfoldable pub product : ℕ → ℕ → ℕ
product a b = reduced 7 (carryless 8 a b)

-- the powers 2, 4, .., 2 to the k of x, multiplied
unfoldable pub squares : ℕ → ℕ → ℕ
squares zero x = 1
squares (suc k) x = product (product x x) (squares k (product x x))

-- there are 255 codes other than 0, so the inverse of a is its power 254, which is 2 + 4 + .. + 128
abbrev pub bytes : Means
bytes = record { q = 256; add = bit_xor; sub = bit_xor; mul = product; inv = squares 7 }

-- the powers of 2
unfoldable pub powers : ℕ → ℕ
powers zero = 1
powers (suc k) = product 2 (powers k)
