-- Which frames a receiver that has released r packets takes, and how far they reach.
use Rattle.std.specs.Prelude.{ℕ, ◌+◌, max, cond, Ok, Err, Result, nat_lt}
use Rattle.refusal.specs.declared.Refusal.{Refusal}
use Rattle.refusal.specs.declared.Refusal.TheVariants.{Late, Ahead}
use Rattle.frame.specs.declared.data.Data.{Data}

-- of the packets below r the last w are kept, and of those from r on the table has room for w
abbrev pub reach : ℕ → ℕ → Data → Result (Unit {0}) Refusal
reach w r f = cond (nat_lt (f.base + w) r) (Err Late) (cond (nat_lt (r + w) (f.base + f.width)) (Err Ahead) (Ok tt))

-- the greatest end of an accepted frame, with that of f
abbrev pub raised : Data → ℕ → ℕ
raised f top = max top (f.base + f.width)
