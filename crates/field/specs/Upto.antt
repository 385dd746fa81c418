-- What holds at each number below n, by one test that antt computes.
use Rattle.std.specs.Prelude.{ℕ, zero, suc, ◌<◌, Bool, true, false, T}
use Rattle.std.proofs.Common.{subst, sym, inl, inr, not-suc-le-zero, arith}
use Rattle.std.proofs.lemmas.Bool.{cases_eq}

abbrev pub both : Bool → Bool → Bool
both true b = b
both false b = false

pub both_left : (a b : Bool) → T (both a b) → T a
both_left true b t = tt
both_left false b t = t

pub both_right : (a b : Bool) → T (both a b) → T b
both_right true b t = t
both_right false b t = absurd t

-- the test f passes at each number below n
abbrev pub upto : ℕ → (ℕ → Bool) → Bool
upto zero f = true
upto (suc n) f = both (f n) (upto n f)

pub upto-at : (n : ℕ) (f : ℕ → Bool) → T (upto n f) → (k : ℕ) → k < n → T (f k)
upto-at zero f t k h = absurd (not-suc-le-zero h)
upto-at (suc n) f t k h =
    elim (cases_eq k n) [
      | inl e ↦ subst (λ (m : ℕ). T (f m)) (sym e) (both_left (f n) (upto n f) t)
      | inr ne ↦ upto-at n f (both_right (f n) (upto n f) t) k (omega arith)
    ]

pub upto_at2 : (m n : ℕ) (f : ℕ → ℕ → Bool) → T (upto m (λ a. upto n (f a))) → (a b : ℕ) → a < m → b < n → T (f a b)
upto_at2 m n f t a b ha hb = upto-at n (f a) (upto-at m (λ x. upto n (f x)) t a ha) b hb

pub upto_at3 : (l m n : ℕ) (f : ℕ → ℕ → ℕ → Bool) → T (upto l (λ a. upto m (λ b. upto n (f a b)))) → (a b c : ℕ) → a < l → b < m → c < n → T (f a b c)
upto_at3 l m n f t a b c ha hb hc = upto_at2 m n (f a) (upto-at l (λ x. upto m (λ y. upto n (f x y))) t a ha) b c hb hc
