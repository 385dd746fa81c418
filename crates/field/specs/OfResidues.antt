-- The field of the integers modulo 257.
use Rattle.std.specs.Prelude.{◌+◌, ◌-◌, ◌*◌, ◌%◌, ◌^◌}
use Rattle.field.specs.Field.{Means}

-- 257 is a prime, so the inverse of a is its power 255
abbrev pub residues : Means
residues = record {
  q = 257;
  add = λ a b. (a + b) % 257;
  sub = λ a b. (a + (257 - b)) % 257;
  mul = λ a b. (a * b) % 257;
  inv = λ a. a ^ 255 % 257;
}
