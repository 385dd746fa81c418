-- Digits, and the number that they write.
use Rattle.std.proofs.Common.{◌≡◌, ℕ, zero, suc, ◌+◌, ◌-◌, ◌*◌, ◌/◌, ◌%◌, ◌^◌, ◌<◌, ◌≤◌, List, map, length, get_or, take, drop, true, refl, sym, ap, ap₂, ◌∙◌, subst, pow-suc, div-add-mod', div-one, add-one, arith, pow_mono}
use native.Mathlib.Nat.{div-eq_of_lt, div-div-eq-div-mul, sub-zero, pow-zero}
use Rattle.std.specs.List.{between, range_with_len}
use Rattle.std.specs.Int.Digits.{number_from_digits, AllBelowBase}
use Rattle.std.proofs.lemmas.List.FromFn.{map-range_with_len_more}
use Rattle.std.proofs.lemmas.Int.Digits.{number_lt, number_more, number_push}
use Rattle.std.proofs.lemmas.List.Edits.{length-between}
use Rattle.std.proofs.ByRecursion.{All-drop, All-get_or, All-take}
use Rattle.std.proofs.lemmas.List.{length-take-le, take_all}
use Rattle.field.specs.Lists.{below}
use Rattle.file.specs.declared.spelling.Spelling.{Spelling}
use Rattle.file.specs.declared.spelling.Spelling.TheVariants.{Bits, Bytes}
use Rattle.file.proofs.Steps.{under}
use Rattle.file.specs.Spelling.{base, byte_of, digit, digits, room, spelled}

-- the first m of n digits of x write what is left of x without the others
number_front : (b n x m : ℕ) → x < b ^ n → m ≤ n → number_from_digits b (map (digit b n x) (range_with_len 0 m)) ≡ x / b ^ (n - m)
number_front b n x zero h l = sym (ap (λ (j : ℕ). x / b ^ j) (sub-zero n) ∙ div-eq_of_lt h)
number_front b n x (suc m) h l =
    let k = n - suc m in
    let e : n - m ≡ suc k = omega arith in
    let d : n - 1 - m ≡ k = omega arith in
    ap (λ (j : ℕ). number_from_digits b (map (digit b n x) (range_with_len 0 j))) (sym (add-one m))
    ∙ ap (number_from_digits b) (map-range_with_len_more (digit b n x) 0 m m (omega arith))
    ∙ number_push b (map (digit b n x) (range_with_len 0 m)) (digit b n x m)
    ∙ ap (λ (y : ℕ). y * b + digit b n x m) (number_front b n x m h (omega arith) ∙ ap (λ (j : ℕ). x / b ^ j) e ∙ ap (λ (y : ℕ). x / y) (pow-suc b k) ∙ sym (div-div-eq-div-mul x (b ^ k) b))
    ∙ ap (λ (j : ℕ). x / b ^ k / b * b + x / b ^ j % b) d
    ∙ div-add-mod' (x / b ^ k) b

-- the digits of a number write that number
pub number_spelled : (b n x : ℕ) → x < b ^ n → number_from_digits b (spelled b n x) ≡ x
unfolding spelled
number_spelled b n x h =
    let z : n - n ≡ 0 = omega arith in
    number_front b n x n h (omega arith) ∙ ap (λ (j : ℕ). x / b ^ j) z ∙ ap (λ (y : ℕ). x / y) (pow-zero b) ∙ div-one x

-- one digit more of a byte still writes a byte
more-below : (s : Spelling) → (i v x : ℕ) → i < digits s → v < base s ^ i → x < base s → v * base s + x < 256
more-below Bits i v x h l m = let p : 2 ^ i ≤ 2 ^ 7 = pow_mono {i = i} {j = 7} (omega arith) in omega arith
more-below Bytes i v x h l m = one i v x h l m
  where
    one : (i v x : ℕ) → i < 1 → v < 256 ^ i → x < 256 → v * 256 + x < 256
    one zero v x h l m = omega arith
    one (suc i) v x h l m = absurd (omega arith)

pub whole_byte : (s : Spelling) → base s ^ digits s ≡ 256
whole_byte Bits = refl
whole_byte Bytes = refl

-- the symbols of one byte of a packet
pub length_part : (s : Spelling) → (xs : List ℕ) (i : ℕ) → length xs ≡ 128 → i < room s → length (between (digits s * i) (digits s * (i + 1)) xs) ≡ digits s
length_part Bits xs i e h = length-between xs (8 * i) (8 * (i + 1)) (omega arith) ∙ omega arith
length_part Bytes xs i e h = length-between xs (1 * i) (1 * (i + 1)) (omega arith) ∙ omega arith

-- byte i of those that the symbols spell, put together from its n digits
module _ (s t : Spelling) (same : s ≡ t) (xs : List ℕ) (long : length xs ≡ 128) (u : below (base t) xs ≡ true) (i : ℕ) (h : i < room t) (n m : ℕ) (en : n ≡ digits s) (em : m ≡ digits s) where
  abbrev part : List ℕ
  part = between (n * i) (m * (i + 1)) xs

  part_is : part ≡ between (digits t * i) (digits t * (i + 1)) xs
  part_is = ap₂ (λ (a b : ℕ). between (a * i) (b * (i + 1)) xs) (en ∙ ap digits same) (em ∙ ap digits same)

  part_long : length part ≡ digits t
  part_long = ap length part_is ∙ length_part t xs i long h

  part_below : AllBelowBase (base t) part
  part_below =
      let at = digits t * i in
      subst (AllBelowBase (base t)) (sym part_is)
      (All-take (λ d. d < base t) (digits t * (i + 1) - at) (drop at xs) (All-drop (λ d. d < base t) at xs (under (base t) xs u)))

  -- before its end the number stays a byte
  pub step_below : (j v b : ℕ) → j < length part → b ≡ base s → v ≡ number_from_digits (base s) (take j part) → v * b + get_or part j 0 < 256
  step_below j v b l eb ev =
      let c = base t in
      let ec : b ≡ c = eb ∙ ap base same in
      let m : number_from_digits c (take j part) < c ^ j =
      subst (λ (k : ℕ). number_from_digits c (take j part) < c ^ k) (length-take-le j part (omega arith)) (number_lt c (take j part) (All-take (λ d. d < c) j part part_below)) in
      let ev' : v ≡ number_from_digits c (take j part) = ev ∙ ap (λ (b : ℕ). number_from_digits b (take j part)) (ap base same) in
      rw ec (more-below t j v (get_or part j 0) (omega (arith, part_long)) (rw ev' m) (All-get_or (λ d. d < c) part j 0 l part_below))

  pub step-more : (j v b : ℕ) → j < length part → b ≡ base s → v ≡ number_from_digits (base s) (take j part) → v * b + get_or part j 0 ≡ number_from_digits (base s) (take (j + 1) part)
  step-more j v b l eb ev = rw (eb, ev) (sym (number_more (base s) part j l))

  pub step_all : (j v : ℕ) → length part ≤ j → v ≡ number_from_digits (base s) (take j part) → (v < 256) × (v ≡ byte_of t xs i)
  unfolding byte_of
  step_all j v l ev =
      let all : v ≡ number_from_digits (base t) part = ev ∙ ap₂ number_from_digits (ap base same) (take_all j part l) in
      let fits = subst (λ (k : ℕ). number_from_digits (base t) part < base t ^ k) part_long (number_lt (base t) part part_below) in
      (omega (arith, whole_byte t), all ∙ ap (number_from_digits (base t)) part_is)
