-- What a receiver's state is to its clauses: the fields of the code, one by one.
use Rattle.std.specs.Prelude.{ℕ, List}
use Rattle.elimination.specs.declared.table.Table.{Table}

pub record Held : Type 0 where
  pub released : ℕ
  pub top : ℕ
  pub table : Table
  pub kept : List (List ℕ)
