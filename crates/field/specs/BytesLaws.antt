-- The field of bytes keeps the laws: the product keeps exclusive or on both sides, so a law is a test at the powers of 2.
--
use Rattle.std.specs.Prelude.{◌≡◌, ℕ, zero, suc, ◌+◌, ◌-◌, ◌*◌, ◌/◌, ◌%◌, ◌^◌, ◌<◌, bit_xor, nat_eq, refl}
use Rattle.std.proofs.Common.{sym, ap, subst, ◌∙◌, mod-lt, arith, eqb→eq, lit<, lit≤}
use Rattle.std.specs.Int.Bits.{xor_assoc, xor_self, xor_zero_r}
use Rattle.std.proofs.lemmas.Nat.{xor_comm, xor_lt, xor_mod, xor_shr}
use Rattle.field.specs.Codes.{OnCodes}
use Rattle.field.specs.OfBytes.{carryless, reduced, product, squares, bytes}
use Rattle.field.specs.Upto.{upto-at, upto_at2, upto_at3}
use Rattle.field.specs.Linear.{Linear, agree, linear_mod, xor_both, xor_swap, bit_times, times_xor, xor_double}

bit : (n : ℕ) → n % 2 < 2
bit n = mod-lt n (lit< tt)

carryless-right : (k a b c : ℕ) → carryless k a (bit_xor b c) ≡ bit_xor (carryless k a b) (carryless k a c)
carryless-right zero a b c = refl
carryless-right (suc k) a b c =
    xor_both
    (ap (λ (x : ℕ). x * a) (xor_mod b c 1) ∙ bit_times (b % 2) (c % 2) a (bit b) (bit c))
    (ap (carryless k (a * 2)) (xor_shr b c 1) ∙ carryless-right k (a * 2) (b / 2) (c / 2))
    ∙ xor_swap (b % 2 * a) (c % 2 * a) (carryless k (a * 2) (b / 2)) (carryless k (a * 2) (c / 2))

carryless-left : (k a b c : ℕ) → carryless k (bit_xor a b) c ≡ bit_xor (carryless k a c) (carryless k b c)
carryless-left zero a b c = refl
carryless-left (suc k) a b c =
    xor_both (times_xor (c % 2) a b (bit c)) (ap (λ (x : ℕ). carryless k x (c / 2)) (xor_double a b) ∙ carryless-left k (a * 2) (b * 2) (c / 2))
    ∙ xor_swap (c % 2 * a) (c % 2 * b) (carryless k (a * 2) (c / 2)) (carryless k (b * 2) (c / 2))

reduced_xor : (k p r : ℕ) → reduced k (bit_xor p r) ≡ bit_xor (reduced k p) (reduced k r)
reduced_xor zero p r = refl
reduced_xor (suc k) p r =
    let m = 0x11D * 2 ^ k in
    let s = 2 ^ (8 + k) in
    ap (reduced k)
    (ap (λ (x : ℕ). bit_xor (bit_xor p r) (x * m)) (ap (λ (x : ℕ). x % 2) (xor_shr p r (8 + k)) ∙ xor_mod (p / s) (r / s) 1)
    ∙ ap (bit_xor (bit_xor p r)) (bit_times (p / s % 2) (r / s % 2) m (bit (p / s)) (bit (r / s)))
    ∙ xor_swap p r _ _)
    ∙ reduced_xor k _ _

pub product_right : (a : ℕ) → Linear (product a)
unfolding product
product_right a b c = ap (reduced 7) (carryless-right 8 a b c) ∙ reduced_xor 7 (carryless 8 a b) (carryless 8 a c)

pub product_left : (c : ℕ) → Linear (λ a. product a c)
unfolding product
product_left c a b = ap (reduced 7) (carryless-left 8 a b c) ∙ reduced_xor 7 (carryless 8 a c) (carryless 8 b c)

comm_test : (i j : ℕ) → i < 8 → j < 8 → product (2 ^ i) (2 ^ j) ≡ product (2 ^ j) (2 ^ i)
unfolding product
comm_test i j hi hj = eqb→eq _ _ (upto_at2 8 8 (λ i j. nat_eq (product (2 ^ i) (2 ^ j)) (product (2 ^ j) (2 ^ i))) tt i j hi hj)

below_test : (i j : ℕ) → i < 8 → j < 8 → product (2 ^ i) (2 ^ j) ≡ product (2 ^ i) (2 ^ j) % 2 ^ 8
unfolding product
below_test i j hi hj = eqb→eq _ _ (upto_at2 8 8 (λ i j. nat_eq (product (2 ^ i) (2 ^ j)) (product (2 ^ i) (2 ^ j) % 2 ^ 8)) tt i j hi hj)

assoc_test : (i j k : ℕ) → i < 8 → j < 8 → k < 8 → product (product (2 ^ i) (2 ^ j)) (2 ^ k) ≡ product (2 ^ i) (product (2 ^ j) (2 ^ k))
unfolding product
assoc_test i j k hi hj hk =
    eqb→eq _ _ (upto_at3 8 8 8 (λ i j k. nat_eq (product (product (2 ^ i) (2 ^ j)) (2 ^ k)) (product (2 ^ i) (product (2 ^ j) (2 ^ k)))) tt i j k hi hj hk)

one_test : (i : ℕ) → i < 8 → product (2 ^ i) 1 ≡ 2 ^ i
unfolding product
one_test i hi = eqb→eq _ _ (upto-at 8 (λ i. nat_eq (product (2 ^ i) 1) (2 ^ i)) tt i hi)

pub product_comm : (a b : ℕ) → a < 256 → b < 256 → product a b ≡ product b a
product_comm a b ha hb =
    agree 8 (product a) (λ b. product b a) (product_right a) (product_left a)
    (λ j hj. agree 8 (λ a. product a (2 ^ j)) (product (2 ^ j)) (product_left (2 ^ j)) (product_right (2 ^ j)) (λ i hi. comm_test i j hi hj) a ha)
    b hb

product-low : (a b : ℕ) → a < 256 → b < 256 → product a b ≡ product a b % 2 ^ 8
product-low a b ha hb =
    agree 8 (product a) (λ b. product a b % 2 ^ 8) (product_right a) (linear_mod (product a) 8 (product_right a))
    (λ j hj. agree 8 (λ a. product a (2 ^ j)) (λ a. product a (2 ^ j) % 2 ^ 8) (product_left (2 ^ j)) (linear_mod (λ a. product a (2 ^ j)) 8 (product_left (2 ^ j))) (λ i hi. below_test i j hi hj) a ha)
    b hb

pub product-below : (a b : ℕ) → a < 256 → b < 256 → product a b < 256
product-below a b ha hb = subst (λ (x : ℕ). x < 256) (sym (product-low a b ha hb)) (mod-lt (product a b) (lit< tt))

pub product_assoc : (a b c : ℕ) → a < 256 → b < 256 → c < 256 → product (product a b) c ≡ product a (product b c)
product_assoc a b c ha hb hc =
    agree 8 (product (product a b)) (λ c. product a (product b c))
    (product_right (product a b))
    (λ x y. ap (product a) (product_right b x y) ∙ product_right a _ _)
    (λ k hk. agree 8 (λ b. product (product a b) (2 ^ k)) (λ b. product a (product b (2 ^ k)))
    (λ x y. ap (λ (z : ℕ). product z (2 ^ k)) (product_right a x y) ∙ product_left (2 ^ k) _ _)
    (λ x y. ap (product a) (product_left (2 ^ k) x y) ∙ product_right a _ _)
    (λ j hj. agree 8 (λ a. product (product a (2 ^ j)) (2 ^ k)) (λ a. product a (product (2 ^ j) (2 ^ k)))
    (λ x y. ap (λ (z : ℕ). product z (2 ^ k)) (product_left (2 ^ j) x y) ∙ product_left (2 ^ k) _ _)
    (product_left (product (2 ^ j) (2 ^ k)))
    (λ i hi. assoc_test i j k hi hj hk) a ha)
    b hb)
    c hc

pub product-one : (a : ℕ) → a < 256 → product a 1 ≡ a
product-one a ha = agree 8 (λ a. product a 1) (λ a. a) (product_left 1) (λ x y. refl) one_test a ha

inverse_test : (k : ℕ) → k < 255 → product (suc k) (squares 7 (suc k)) ≡ 1
unfolding product squares
inverse_test k h = eqb→eq _ _ (upto-at 255 (λ k. nat_eq (product (suc k) (squares 7 (suc k))) 1) tt k h)

squares-below : (k x : ℕ) → x < 256 → squares k x < 256
unfolding squares
squares-below zero x h = lit< tt
squares-below (suc k) x h = let s = product-below x x h h in product-below _ _ s (squares-below k _ s)

pub bytes_laws : OnCodes bytes
bytes_laws = record {
  two = lit≤ tt;
  most = lit≤ tt;
  add_below = λ a b ha hb. xor_lt 8 a b ha hb;
  sub_below = λ a b ha hb. xor_lt 8 a b ha hb;
  mul_below = product-below;
  inv_below = λ a p h. squares-below 7 a h;
  add_comm = λ a b ha hb. xor_comm a b;
  add_assoc = λ a b c ha hb hc. xor_assoc a b c;
  mul_comm = product_comm;
  mul_assoc = product_assoc;
  mul_add = λ a b c ha hb hc. product_right a b c;
  add_zero = λ a h. xor_zero_r a;
  mul_one = product-one;
  sub_add = λ a b ha hb. xor_assoc a b b ∙ ap (bit_xor a) (xor_self b) ∙ xor_zero_r a;
  mul_inv = λ a p h. let e : suc (a - 1) ≡ a = omega arith in subst (λ (x : ℕ). product x (squares 7 x) ≡ 1) e (inverse_test (a - 1) (omega arith));
}
