-- Functions that keep exclusive or: two that agree at the powers of 2 agree everywhere below.
use Rattle.std.specs.Prelude.{◌≡◌, ℕ, zero, suc, ◌*◌, ◌/◌, ◌%◌, ◌^◌, ◌<◌}
use Rattle.std.proofs.Common.{sym, ap, ◌∙◌, zero-mul, one-mul, add-zero, mod-lt, div-add-mod', not-suc-le-zero, le_of_suc-le-suc, arith, lit<, pow_pos}
use Rattle.std.specs.Int.Bits.{bit_xor, xor_assoc, xor_self, xor_zero_r, xor_shifted}
use Rattle.std.proofs.lemmas.Nat.{div_below, xor_comm, xor_block, xor_mod}

abbrev pub Linear : (ℕ → ℕ) → Type 0
Linear f = (x y : ℕ) → f (bit_xor x y) ≡ bit_xor (f x) (f y)

pub xor_both : {a b c d : ℕ} → a ≡ c → b ≡ d → bit_xor a b ≡ bit_xor c d
xor_both {a} {b} {c} {d} p r = ap (λ (x : ℕ). bit_xor x b) p ∙ ap (bit_xor c) r

pub xor_swap : (a b c d : ℕ) → bit_xor (bit_xor a b) (bit_xor c d) ≡ bit_xor (bit_xor a c) (bit_xor b d)
xor_swap a b c d =
    xor_assoc a b (bit_xor c d)
    ∙ ap (bit_xor a) (sym (xor_assoc b c d) ∙ ap (λ (x : ℕ). bit_xor x d) (xor_comm b c) ∙ xor_assoc c b d)
    ∙ sym (xor_assoc a c (bit_xor b d))

not-bit {ℓ} : {A : Type ℓ} {x : ℕ} → suc (suc x) < 2 → A
not-bit h = absurd (not-suc-le-zero (le_of_suc-le-suc (le_of_suc-le-suc h)))

pub bit_times : (x y c : ℕ) → x < 2 → y < 2 → bit_xor x y * c ≡ bit_xor (x * c) (y * c)
bit_times zero y c hx hy = sym (ap (λ (z : ℕ). bit_xor z (y * c)) (zero-mul c))
bit_times (suc zero) zero c hx hy = sym (ap (bit_xor (1 * c)) (zero-mul c) ∙ xor_zero_r (1 * c))
bit_times (suc zero) (suc zero) c hx hy = zero-mul c ∙ sym (xor_self (1 * c))
bit_times (suc zero) (suc (suc y)) c hx hy = not-bit hy
bit_times (suc (suc x)) y c hx hy = not-bit hx

pub times_xor : (x b c : ℕ) → x < 2 → x * bit_xor b c ≡ bit_xor (x * b) (x * c)
times_xor zero b c h = zero-mul (bit_xor b c) ∙ sym (xor_both (zero-mul b) (zero-mul c))
times_xor (suc zero) b c h = one-mul (bit_xor b c) ∙ sym (xor_both (one-mul b) (one-mul c))
times_xor (suc (suc x)) b c h = not-bit h

pub xor_double : (a b : ℕ) → bit_xor a b * 2 ≡ bit_xor (a * 2) (b * 2)
xor_double a b = sym (simp add-zero at (xor_block 1 a b 0 0 (lit< tt) (lit< tt)))

pub linear_zero : (f : ℕ → ℕ) → Linear f → f 0 ≡ 0
linear_zero f l = l 0 0 ∙ xor_self (f 0)

pub linear_mod : (f : ℕ → ℕ) (k : ℕ) → Linear f → Linear (λ x. f x % 2 ^ k)
linear_mod f k l x y = ap (λ (z : ℕ). z % 2 ^ k) (l x y) ∙ xor_mod (f x) (f y) k

top : (f g : ℕ → ℕ) → Linear f → Linear g → (p h : ℕ) → f p ≡ g p → h < 2 → f (h * p) ≡ g (h * p)
top f g lf lg p zero e b = ap f (zero-mul p) ∙ linear_zero f lf ∙ sym (ap g (zero-mul p) ∙ linear_zero g lg)
top f g lf lg p (suc zero) e b = ap f (one-mul p) ∙ e ∙ sym (ap g (one-mul p))
top f g lf lg p (suc (suc h)) e b = not-bit b

pub agree : (n : ℕ) (f g : ℕ → ℕ) → Linear f → Linear g → ((i : ℕ) → i < n → f (2 ^ i) ≡ g (2 ^ i)) → (x : ℕ) → x < 2 ^ n → f x ≡ g x
agree zero f g lf lg e x h = let z : x ≡ 0 = omega arith in ap f z ∙ linear_zero f lf ∙ sym (ap g z ∙ linear_zero g lg)
agree (suc n) f g lf lg e x h =
    let low : x % 2 ^ n < 2 ^ n = mod-lt x (pow_pos n) in
    let parts : bit_xor (x / 2 ^ n * 2 ^ n) (x % 2 ^ n) ≡ x = xor_shifted (x / 2 ^ n) n (x % 2 ^ n) low ∙ div-add-mod' x (2 ^ n) in
    let high : x / 2 ^ n < 2 = div_below x (2 ^ n) 2 (pow_pos n) (omega (arith, h)) in
    ap f (sym parts) ∙ lf _ _
    ∙ xor_both (top f g lf lg (2 ^ n) (x / 2 ^ n) (e n (omega arith)) high) (agree n f g lf lg (λ i b. e i (omega arith)) (x % 2 ^ n) low)
    ∙ sym (ap g (sym parts) ∙ lg _ _)
