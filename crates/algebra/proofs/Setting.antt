-- What a receiver works with: its type of rows, the sizes, and the field.
use Rattle.std.proofs.Common.{ℕ, ◌<◌, List}
use Rattle.field.specs.Field.{Means, Laws}
use Rattle.algebra.proofs.Scalars.{Scalars}
use Rattle.algebra.proofs.Equations.{Equation}
use Rattle.algebra.proofs.Codes.{Code, scalars}
use Rattle.algebra.proofs.Words.{Place}

pub record Setting (Row : Type 0) : Type 0 where
  -- a row's slots, in a ring, and its payload
  pub slots : Row → List ℕ
  pub payload : Row → List ℕ
  -- the places of a ring, the packets of a stream, the symbols of a packet
  pub w : ℕ
  pub n : ℕ
  pub size : ℕ
  pub w_pos : 0 < w
  pub size_pos : 0 < size
  pub m : Means
  pub laws : Laws m

-- the field over its codes, and the equations over that
abbrev pub field : {Row : Type 0} (S : Setting Row) → Scalars (Code S.m)
field S = scalars S.m S.laws

abbrev pub Eqn : {Row : Type 0} → Setting Row → Type 0
Eqn S = Equation (Code S.m) (Place S.size)
