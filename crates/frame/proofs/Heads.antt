-- Kind, length and numbers of four bytes, read and written.
use Rattle.std.proofs.Common.{◌≡◌, ℕ, ◌+◌, ◌*◌, ◌/◌, ◌%◌, ◌^◌, ◌<◌, Bool, true, false, cond, eqb, List, [], ◌∷◌, length, get_or, Some, None, refl, ap, ◌∙◌, mod-eq_of_lt, arith}
use native.Mathlib.Nat.{div-div-eq-div-mul}
use Rattle.std.proofs.lemmas.Bool.{cond-true, eq-eqb, eqb-true}
use Rattle.refusal.specs.declared.Refusal.TheVariants.{WrongKind, WrongLength}
use Rattle.frame.specs.Head.{begins, misfit, four_bytes}

passed : (x y : Bool) → cond x (cond y None (Some WrongLength)) (Some WrongKind) ≡ None → (x ≡ true) × (y ≡ true)
passed true true e = (refl, refl)
passed true false e = absurd (let z : ◌≡◌ {A = ℕ} 0 1 = cc in omega arith)
passed false y e = absurd (let z : ◌≡◌ {A = ℕ} 0 1 = cc in omega arith)

begins-is : (kind : ℕ) (bs : List ℕ) → 0 < length bs → begins kind bs ≡ eqb (get_or bs 0 0) kind
begins-is kind [] h = absurd (omega arith)
begins-is kind (b ∷ bs) h = refl

begins_true : (kind : ℕ) (bs : List ℕ) → begins kind bs ≡ true → get_or bs 0 0 ≡ kind
begins_true kind [] e = absurd (let z : ◌≡◌ {A = ℕ} 0 1 = cc in omega arith)
begins_true kind (b ∷ bs) e = eqb-true b kind e

-- bytes that fit, and bytes that do not
pub fitting : (kind len : ℕ) (bs : List ℕ) → 0 < length bs → get_or bs 0 0 ≡ kind → length bs ≡ len → misfit kind len bs ≡ None
fitting kind len bs h k l =
    cond-true (begins kind bs) _ _ (begins-is kind bs h ∙ eq-eqb _ _ k) ∙ cond-true (eqb (length bs) len) _ _ (eq-eqb _ _ l)

pub fitted : (kind len : ℕ) (bs : List ℕ) → misfit kind len bs ≡ None → (get_or bs 0 0 ≡ kind) × (length bs ≡ len)
fitted kind len bs e =
    let both = passed (begins kind bs) (eqb (length bs) len) e in
    (begins_true kind bs both.0, eqb-true _ _ both.1)

-- the four bytes of a number give it back
joined : (n a b c r s t : ℕ) → n ≡ 256 * a + r → a ≡ 256 * b + s → b ≡ 256 * c + t → c * 16777216 + t * 65536 + s * 256 + r ≡ n
joined n a b c r s t p q u = omega arith

pub number_back : (n : ℕ) → n < 2 ^ 32 → n / 16777216 % 256 * 16777216 + n / 65536 % 256 * 65536 + n / 256 % 256 * 256 + n % 256 ≡ n
number_back n h =
    let top : n / 16777216 < 256 = omega arith in
    let two = div-div-eq-div-mul n 256 256 in
    let three = div-div-eq-div-mul n 65536 256 in
    ap (λ (x : ℕ). x * 16777216 + n / 65536 % 256 * 65536 + n / 256 % 256 * 256 + n % 256) (mod-eq_of_lt top)
    ∙ joined n (n / 256) (n / 65536) (n / 16777216) (n % 256) (n / 256 % 256) (n / 65536 % 256) (omega arith) (omega (arith, two)) (omega (arith, three))

-- and the number of four bytes gives them back
pub bytes_back : (a b c d : ℕ) → a < 256 → b < 256 → c < 256 → d < 256 → four_bytes (a * 16777216 + b * 65536 + c * 256 + d) ≡ a ∷ b ∷ c ∷ d ∷ []
bytes_back a b c d ha hb hc hd =
    let n = a * 16777216 + b * 65536 + c * 256 + d in
    let e : n / 16777216 % 256 ≡ a = omega arith in
    let f : n / 65536 % 256 ≡ b = omega arith in
    let g : n / 256 % 256 ≡ c = omega arith in
    let h : n % 256 ≡ d = omega arith in
    cc
