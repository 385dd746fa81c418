-- The woven source: one packet at a time, mixed with those below it by a linear congruential generator.
use Rattle.std.specs.Prelude.{ℕ, zero, suc, ◌+◌, ◌*◌, ◌/◌, ◌%◌, ◌^◌}
use Rattle.source.specs.declared.woven.Woven.{Woven}
use Rattle.source.specs.Source.{Draws}
use Rattle.source.specs.Turn.{place_at, moved, ending}

-- one step of the generator
abbrev pub stepped : ℕ → ℕ
stepped v = (1664525 * v + 1013904223) % 2 ^ 32

-- its number after k steps from v
unfoldable pub generated : ℕ → ℕ → ℕ
generated v zero = v
generated v (suc k) = stepped (generated v k)

-- the code that a number of the generator gives: its upper half, modulo q
abbrev pub code : ℕ → ℕ → ℕ
code q v = v / 65536 % q

-- the source after one step of its generator
abbrev pub advanced : Woven → Woven
advanced x = record { turn = x.turn; v = stepped x.v }

-- the code of slot i, for which slot 0 took the first step
abbrev pub codes : Woven → ℕ → ℕ → ℕ
codes x q i = code q (generated x.v (suc i))

-- the slot at the place is 1, those above 0, and each below takes one step of the generator
abbrev pub woven : ℕ → Draws Woven
woven w = record {
  slots = λ x q n. ending w (place_at x.turn n) (codes x q);
  next = λ x q n. record { turn = moved x.turn n; v = generated x.v (place_at x.turn n) };
}
