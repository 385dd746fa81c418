-- Tests of every number of a list.
use Rattle.std.specs.Prelude.{ℕ, Bool, List, nat_eq, nat_lt}
use Rattle.std.specs.List.{list_all}

-- every number is below the limit
abbrev pub below : ℕ → List ℕ → Bool
below limit = list_all (λ x. nat_lt x limit)

-- every number is 0
abbrev pub zeros : List ℕ → Bool
zeros = list_all (λ x. nat_eq x 0)
