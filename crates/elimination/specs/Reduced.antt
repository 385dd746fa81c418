-- Reduced tables.
use Rattle.std.specs.Prelude.{◌≡◌, ℕ, ◌+◌, ◌%◌, ◌<◌, ◌≢◌, length, Some, slice_index}
use Rattle.field.specs.Field.{Means}
use Rattle.elimination.specs.Tables.{row_at}
use Rattle.elimination.specs.declared.row.Row.{Row}
use Rattle.elimination.specs.declared.table.Table.{Table}

-- a row of w codes
pub record Coded (m : Means) (w : ℕ) (x : Row) : Type 0 where
  pub long : length x.slots ≡ w
  pub codes : (k : ℕ) → k < w → slice_index x.slots k < m.q

-- a table for the w packets from start on: each row begins with 1, at a number of its own, where all others are 0
pub record Reduced (m : Means) (w start : ℕ) (t : Table) : Type 0 where
  pub sized : length t.rows ≡ w
  pub coded : (i : ℕ) (y : Row) → row_at t i ≡ Some y → Coded m w y
  pub one : (i : ℕ) (y : Row) → row_at t i ≡ Some y → slice_index y.slots i ≡ 1
  pub apart : (i j : ℕ) (y z : Row) → i ≢ j → row_at t i ≡ Some y → row_at t j ≡ Some z → slice_index z.slots i ≡ 0
  pub begins : (d e : ℕ) (y : Row) → d < e → e < w → row_at t ((start + e) % w) ≡ Some y → slice_index y.slots ((start + d) % w) ≡ 0
