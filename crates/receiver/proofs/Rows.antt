-- A table's rows as lines: the setting in which the receiver works, and what is done to rows is done to their lines.
use Rattle.std.proofs.Common.{◌≡◌, ℕ, ◌<◌, List, [], length, get_or, ap, ◌∙◌, zero-add, lit<}
use Rattle.std.proofs.lemmas.List.FromFn.{length-map-range_with_len, get_or-map-range_with_len}
use Rattle.std.proofs.lemmas.List.{length-map, get_or-map}
use Rattle.field.specs.Field.{Means, Laws, times}
use Rattle.elimination.proofs.Joining.{joined-here, joined_other}
use Rattle.elimination.specs.Rows.{less, less_all, less_row, times_all}
use Rattle.elimination.specs.Tables.{row_at, cleared_by, joined}
use Rattle.elimination.specs.declared.row.Row.{Row}
use Rattle.elimination.specs.declared.table.Table.{Table}
use Rattle.algebra.specs.Frames.{Frame}
use Rattle.algebra.proofs.Lines.{Lessened, Scaled}
use Rattle.algebra.proofs.Releasing.{Settled}
use Rattle.algebra.proofs.Represents.{Represents}
use Rattle.algebra.proofs.Setting.{Setting}
use Rattle.algebra.proofs.Tables.{Joined}
use Rattle.receiver.specs.declared.state.State.{State}

abbrev pub setting : (m : Means) → Laws m → (w : ℕ) → 0 < w → Setting Row
setting m laws w pos = record {
  slots = λ x. x.slots;
  payload = λ x. x.payload;
  w = w;
  n = 65536;
  size = 128;
  w_pos = pos;
  size_pos = lit< tt;
  m = m;
  laws = laws;
}

-- the state stands for the accepted frames, of which so many were fresh, and the released packets
abbrev pub Stands : (m : Means) → Laws m → (w : ℕ) → 0 < w → List Frame → ℕ → List (List ℕ) → State → Type 0
Stands m laws w pos accepted fresh released c =
    Represents (setting m laws w pos) accepted fresh c.released released (λ i. get_or c.kept i []) (row_at c.table)

-- the same of a table and copies of w places, and no packet is left to release
pub record Standing (m : Means) (laws : Laws m) (w : ℕ) (pos : 0 < w) (accepted : List Frame) (fresh : ℕ) (released : List (List ℕ)) (c : State) : Type 0 where
  pub stands : Stands m laws w pos accepted fresh released c
  pub rows : length c.table.rows ≡ w
  pub places : length c.kept ≡ w
  pub settled : c.released < 65536 → Settled (setting m laws w pos) c.released (row_at c.table)

pub less-is : (m : Means) (c : ℕ) (ys xs : List ℕ) → Lessened m c xs ys (less_all m c ys xs)
unfolding less_all
less-is m c ys xs = record {
  long = length-map-range_with_len (less m c ys xs) 0 (length xs);
  each = λ i l. get_or-map-range_with_len (less m c ys xs) 0 (length xs) i i 0 l (zero-add i);
}

pub times-is : (m : Means) (c : ℕ) (xs : List ℕ) → Scaled m c xs (times_all m c xs)
unfolding times_all
times-is m c xs = record { long = length-map xs (times m c); each = λ i l. get_or-map (times m c) xs i 0 0 l }

-- a row that joins a table at the place s clears the others there
pub joined_is : (m : Means) (laws : Laws m) (w : ℕ) (pos : 0 < w) (s : ℕ) (x : Row) (t : Table) → length t.rows ≡ w → s < w → Joined (setting m laws w pos) s x (row_at t) (row_at (joined m w s x t))
joined_is m laws w pos s x t long low = record {
  here = joined-here m w s x t long low;
  none_more = λ i l ne e. joined_other m w s x t long i l ne ∙ ap (cleared_by m s x) e;
  cleared = λ i y l ne e. (
    less_row m (get_or y.slots s 0) x y,
    joined_other m w s x t long i l ne ∙ ap (cleared_by m s x) e,
    less-is m (get_or y.slots s 0) x.slots y.slots,
    less-is m (get_or y.slots s 0) x.payload y.payload,
  );
}
