-- The plain source: one packet at a time.
use Rattle.std.specs.Prelude.{ℕ}
use Rattle.source.specs.declared.plain.Plain.{Plain}
use Rattle.source.specs.Source.{Draws}
use Rattle.source.specs.Turn.{place_at, moved, ending}

-- the slot at the place is 1, the others 0
abbrev pub plain : ℕ → Draws Plain
plain w = record {
  slots = λ x q n. ending w (place_at x.turn n) (λ i. 0);
  next = λ x q n. record { turn = moved x.turn n };
}
