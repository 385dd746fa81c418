-- The layouts of the three fields.
use Rattle.std.specs.Prelude.{ℕ, ◌+◌, ◌-◌, ◌*◌, ◌/◌, ◌%◌, ◌^◌, cond, List, map, ◌==◌, slice_index}
use Rattle.std.specs.List.{range_with_len}
use Rattle.std.specs.Int.Digits.{number_from_digits}
use Rattle.carried.specs.Carries.{Carries}

-- the eight codes from place 8 * k on, each by its remainder by 2
abbrev pub bits_at : List ℕ → ℕ → List ℕ
bits_at codes k = map (λ j. slice_index codes (8 * k + j) % 2) (range_with_len 0 8)

-- bits: eight codes a byte, as its binary digits, the first in the highest bit
abbrev pub eight_a_byte : Carries
eight_a_byte = record {
  kind = 1;
  len = 26;
  eight = 1;
  byte_of = λ codes k. number_from_digits 2 (bits_at codes k);
  code_of = λ bytes i. slice_index bytes (i / 8) / 2 ^ (7 - i % 8) % 2;
}

-- bytes: one byte a code
abbrev pub one_byte : Carries
one_byte = record {
  kind = 2;
  len = 166;
  eight = 8;
  byte_of = λ codes k. slice_index codes k % 256;
  code_of = λ bytes i. slice_index bytes i;
}

-- residues: two bytes a code, the higher first
abbrev pub two_bytes : Carries
two_bytes = record {
  kind = 3;
  len = 326;
  eight = 16;
  byte_of = λ codes k. cond (k % 2 == 0) (slice_index codes (k / 2) / 256) (slice_index codes (k / 2) % 256);
  code_of = λ bytes i. slice_index bytes (2 * i) * 256 + slice_index bytes (2 * i + 1);
}
