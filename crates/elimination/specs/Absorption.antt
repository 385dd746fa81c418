-- What a table answers to a row, and the table after it.
use Rattle.std.specs.Prelude.{◌≡◌, ℕ, ◌+◌, ◌%◌, cond, Some, None, Option}
use Rattle.field.specs.Field.{Means}
use Rattle.field.specs.Lists.{zeros}
use Rattle.elimination.specs.Rows.{first_from, scaled}
use Rattle.elimination.specs.Tables.{reduced, joined}
use Rattle.elimination.specs.declared.row.Row.{Row}
use Rattle.elimination.specs.declared.table.Table.{Table}
use Rattle.elimination.specs.declared.table.Verdict.{Verdict}
use Rattle.elimination.specs.declared.table.Verdict.TheVariants.{Innovative, Redundant, Contradictory}

-- a verdict, and the table after it
pub record Absorption : Type 0 where
  pub verdict : Verdict
  pub table : Table

abbrev pub absorption : Verdict → Table → Absorption
absorption v t = record { verdict = v; table = t }

-- the table t, having taken in the row x, scaled to 1 at the place s
abbrev pub with_pivot : Means → ℕ → ℕ → Row → Table → Table
with_pivot m w s x t = joined m w s (scaled m s x) t

-- what becomes of the reduced row x, which begins at a distance past start or is 0
abbrev pub settled : Means → ℕ → ℕ → Row → Table → Option ℕ → Absorption
settled m w start x t None = absorption (cond (zeros x.payload) Redundant Contradictory) t
settled m w start x t (Some distance) = absorption (Innovative distance) (with_pivot m w ((start + distance) % w) x t)

-- the same of a reduced row
abbrev pub decided : Means → ℕ → ℕ → Table → Row → Absorption
decided m w start t x = settled m w start x t (first_from w start x)

-- what becomes of a row x of the w packets from start on
abbrev pub absorbed : Means → ℕ → ℕ → Row → Table → Absorption
absorbed m w start x t = decided m w start t (reduced m w t x)

-- only an innovative row changes a table, from t to u
abbrev pub LeftUnlessInnovative : Verdict → Table → Table → Type 0
LeftUnlessInnovative (Innovative distance) t u = Unit {0}
LeftUnlessInnovative Redundant t u = u ≡ t
LeftUnlessInnovative Contradictory t u = u ≡ t
