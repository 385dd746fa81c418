-- Combinations of rows: what they span, what they show seen, and when they are independent.
use Rattle.std.specs.Prelude.{◌≡◌, ℕ, ◌+◌, ◌%◌, ◌<◌, ◌⊎◌, List, [], ◌∷◌, map, length, slice_index}
use Rattle.field.specs.Field.{Means, plus, times}
use Rattle.algebra.specs.Frames.{Frame, row_at}

-- the rows of frames
abbrev pub rows : List Frame → List (ℕ → ℕ)
rows frames = map (λ f. f.row) frames

-- the rows with these slots, all from one base on
abbrev pub rows_at : ℕ → List (List ℕ) → List (ℕ → ℕ)
rows_at base draws = map (row_at base) draws

-- the sum of weight times row, at the number k; a weight that lacks counts as 0
unfoldable pub combination : Means → List ℕ → List (ℕ → ℕ) → ℕ → ℕ
combination m [] xs k = 0
combination m (c ∷ cs) [] k = 0
combination m (c ∷ cs) (x ∷ xs) k = plus m (times m c (x k)) (combination m cs xs k)

-- the row is a combination of the others
pub record Spanned (m : Means) (others : List (ℕ → ℕ)) (row : ℕ → ℕ) : Type 0 where
  pub weights : List ℕ
  pub equal : (k : ℕ) → combination m weights others k ≡ row k

-- packet k is seen: some combination of the rows is 0 at every number below k and 1 at k
pub record Seen (m : Means) (xs : List (ℕ → ℕ)) (k : ℕ) : Type 0 where
  pub weights : List ℕ
  pub below : (j : ℕ) → j < k → combination m weights xs j ≡ 0
  pub here : combination m weights xs k ≡ 1

-- of the rows, the newest first, c are no combination of those that came before
abbrev pub Rank : Means → List (ℕ → ℕ) → ℕ → Type 0
Rank m [] c = c ≡ 0
Rank m (x ∷ xs) c = (b : ℕ) × Rank m xs b × ((Spanned m xs x × (c ≡ b)) ⊎ ((Spanned m xs x → ⊥) × (c ≡ b + 1)))

-- only weights that all count as 0 combine the rows to 0
abbrev pub Independent : Means → List (ℕ → ℕ) → Type 0
Independent m xs =
    (weights : List ℕ) → ((k : ℕ) → combination m weights xs k ≡ 0)
    → (i : ℕ) → i < length xs → slice_index weights i % m.q ≡ 0
