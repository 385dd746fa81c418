-- Rows of equal parts are equal.
use Rattle.std.proofs.Common.{◌≡◌, ℕ, List}
use Rattle.elimination.specs.declared.row.Row.{Row}

row_of : (a b s t : List ℕ) → a ≡ s → b ≡ t → ◌≡◌ {A = Row} (record { slots = a; payload = b }) (record { slots = s; payload = t })
row_of a b s t p q = cc

pub same_row : (x y : Row) → x.slots ≡ y.slots → x.payload ≡ y.payload → x ≡ y
same_row x y p q = row_of _ _ _ _ p q
