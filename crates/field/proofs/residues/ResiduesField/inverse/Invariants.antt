use Rattle.std.proofs.Common.{◌≡◌, ◌%◌}
use Rattle.field.proofs.Fermat.{square_at, power_at}
use Rattle.field.proofs.residues.ResiduesField.inverse.Given as goal

abbrev pub invariant-loop-turn : goal.invariant-loop-turn
invariant-loop-turn l = (l.power ≡ power_at (l.a % 257) l._turn) × (l.square ≡ square_at (l.a % 257) l._turn)
