-- Loops as functions of their number of turns.
use Rattle.std.specs.Prelude.{ℕ, zero, suc, ◌+◌, Bool, true, cond, ◌&&◌, Some, None, Option}

-- what the turns 0 to n - 1 of f make of a, one after another
unfoldable pub turns : {A : Type 0} → (ℕ → A → A) → A → ℕ → A
turns f a zero = a
turns f a (suc n) = f n (turns f a n)

-- the first of the n numbers from a on that passes the test p
unfoldable pub seek : (ℕ → Bool) → ℕ → ℕ → Option ℕ
seek p a zero = None
seek p a (suc n) = cond (p a) (Some a) (seek p (a + 1) n)

-- each number below n passes the test p
unfoldable pub every : (ℕ → Bool) → ℕ → Bool
every p zero = true
every p (suc n) = every p n && p n
