-- Number buffers.
use Rattle.std.specs.Prelude.{ℕ, List, [], ◌∷◌, ◌++◌, length, drop}

-- some packets, one after another
abbrev pub concat : List (List ℕ) → List ℕ
concat [] = []
concat (p ∷ ps) = p ++ concat ps

-- xs written over the start of a buffer, the rest left
abbrev pub over : List ℕ → List ℕ → List ℕ
over buffer xs = xs ++ drop (length xs) buffer
