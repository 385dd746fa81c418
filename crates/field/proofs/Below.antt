-- A test of every number of a list that looks at all of them.
use Rattle.std.proofs.Common.{◌≡◌, ℕ, Bool, true, false, ◌&&◌, List, [], ◌∷◌, sym, refl}
use Rattle.std.specs.List.{fold, list_all}

kept : (f : ℕ → Bool) (b : Bool) (xs : List ℕ) → fold (λ (a : Bool) (x : ℕ). a && f x) b xs ≡ (b && list_all f xs)
kept f true [] = refl
kept f false [] = refl
kept f true (x ∷ xs) = kept f (f x) xs
kept f false (x ∷ xs) = kept f false xs

pub all_folded : (f : ℕ → Bool) (xs : List ℕ) → list_all f xs ≡ fold (λ (a : Bool) (x : ℕ). a && f x) true xs
all_folded f xs = sym (kept f true xs)
