-- A loop's turn, for the loops of specs/Loops.
use Rattle.std.proofs.Common.{◌≡◌, ℕ, zero, suc, ◌+◌, ◌<◌, Bool, true, false, Some, sym, refl, ap, ◌∙◌, ⊎_elim, add-one, arith}
use Rattle.std.proofs.lemmas.Bool.{and_from, and_left, and_right, cases_eq}
use Rattle.elimination.specs.Loops.{turns, seek, every}

pub turns-none : {A : Type 0} (f : ℕ → A → A) (a : A) → a ≡ turns f a 0
unfolding turns
turns-none f a = refl

-- turn n takes x to y
pub turns_more : {A : Type 0} (f : ℕ → A → A) (a : A) (n : ℕ) (x y : A) → x ≡ turns f a n → y ≡ f n x → y ≡ turns f a (n + 1)
unfolding turns
turns_more f a n x y e h = rw add-one (h ∙ ap (f n) e)

-- a value by a case that is known
pub by_case : {A B : Type 0} (f : A → B) (a b : A) (x y : B) → x ≡ y → y ≡ f a → b ≡ a → x ≡ f b
by_case f a b x y d e h = d ∙ e ∙ ap f (sym h)

-- n numbers are left to search, from a on
pub seek_yes : (p : ℕ → Bool) (a n : ℕ) → 0 < n → p a ≡ true → seek p a n ≡ Some a
unfolding seek
seek_yes p a zero h t = absurd (omega arith)
seek_yes p a (suc n) h t = rw t

pub every-none : (p : ℕ → Bool) → every p 0 ≡ true
unfolding every
every-none p = refl

pub every_more : (p : ℕ → Bool) (n : ℕ) → every p n ≡ true → p n ≡ true → every p (n + 1) ≡ true
unfolding every
every_more p n e h = rw add-one (and_from _ _ e h)

pub every_not : (p : ℕ → Bool) (k n : ℕ) → k < n → p k ≡ false → every p n ≡ false
unfolding every
every_not p k zero l h = absurd (omega arith)
every_not p k (suc n) l h =
    ⊎_elim (λ e. and_right _ _ (rw e at h)) (λ ne. and_left _ _ (every_not p k n (omega arith) h)) (cases_eq k n)
