-- Eight codes a byte keep their laws.
use Rattle.std.specs.Prelude.{◌≡◌, ℕ, zero, suc, ◌+◌, ◌-◌, ◌*◌, ◌/◌, ◌%◌, ◌^◌, ◌<◌, List, map, length, take, nat_eq, slice_index, slice_index_or, refl}
use Rattle.std.proofs.Common.{sym, ap, subst, ◌∙◌, mod-eq_of_lt, add-one, arith, eqb→eq, lit<, lit≤}
use Rattle.std.specs.List.{range_with_len}
use Rattle.std.specs.Int.Digits.{number_from_digits}
use Rattle.std.proofs.lemmas.Nat.{shr-shr}
use Rattle.std.proofs.lemmas.List.FromFn.{get_or-map-range_with_len, length-map-range_with_len, fill_by_all}
use Rattle.std.proofs.lemmas.Int.Digits.{number_more}
use Rattle.std.proofs.lemmas.List.{take_all}
use Rattle.field.specs.Upto.{upto-at}
use Rattle.carried.specs.Carries.{Lays, Under, packed, unpacked}
use Rattle.carried.specs.Layouts.{bits_at, eight_a_byte}
use Rattle.carried.specs.Places.{below, packed-at, unpacked-at, all-packed, all-unpacked}

-- without its last d binary digits, a number is the one that its other digits write
leading : (ds : List ℕ) → ((k : ℕ) → slice_index ds k < 2) → (d m : ℕ) → m + d ≡ length ds → number_from_digits 2 ds / 2 ^ d ≡ number_from_digits 2 (take m ds)
leading ds u zero m e =
    let all = ap (number_from_digits 2) (take_all m ds (omega arith)) in
    let same : number_from_digits 2 ds / 1 ≡ number_from_digits 2 ds = omega arith in
    same ∙ sym all
leading ds u (suc d) m e =
    let more = number_more 2 ds m (omega arith) in
    let bit = u m in
    ap (λ (x : ℕ). number_from_digits 2 ds / 2 ^ x) (sym (add-one d))
    ∙ sym (shr-shr (number_from_digits 2 ds) d 1)
    ∙ ap (λ (x : ℕ). x / 2) (leading ds u d (m + 1) (omega arith))
    ∙ omega (arith, more, bit)

digit : (ds : List ℕ) → ((k : ℕ) → slice_index ds k < 2) → (j : ℕ) → j < length ds → number_from_digits 2 ds / 2 ^ (length ds - 1 - j) % 2 ≡ slice_index ds j
digit ds u j h =
    let front = leading ds u (length ds - 1 - j) (j + 1) (omega arith) in
    let more = number_more 2 ds j h in
    let bit = u j in
    omega (arith, front, more, bit)

bit_below : (xs : List ℕ) (g : ℕ) → Under 2 (bits_at xs g)
bit_below xs g k h =
    let at = get_or-map-range_with_len (λ j. slice_index xs (8 * g + j) % 2) 0 8 k k 0 h (omega arith) in
    let small : slice_index_or xs (8 * g + k) 0 % 2 < 2 = omega arith in
    subst (λ (x : ℕ). x < 2) (sym at) small

read_at : (xs : List ℕ) (n i : ℕ) → Under 2 xs → length xs * 1 ≡ 8 * n → i < length xs → slice_index xs i ≡ eight_a_byte.code_of (packed eight_a_byte n xs) i
read_at xs n i u e h =
    let all = below 2 xs (lit< tt) u in
    let bits : (k : ℕ) → slice_index (bits_at xs (i / 8)) k < 2 = below 2 (bits_at xs (i / 8)) (lit< tt) (λ k b. bit_below xs (i / 8) k b) in
    let place = digit (bits_at xs (i / 8)) bits (i % 8) (omega arith) in
    let same = get_or-map-range_with_len (λ j. slice_index xs (8 * (i / 8) + j) % 2) 0 8 (i % 8) (i % 8) 0 (omega arith) (omega arith) in
    ap (λ (k : ℕ). slice_index xs k) (omega arith)
    ∙ sym (mod-eq_of_lt (all (8 * (i / 8) + i % 8)))
    ∙ sym same
    ∙ sym place
    ∙ sym (ap (λ (b : ℕ). b / 2 ^ (7 - i % 8) % 2) (packed-at eight_a_byte n xs (i / 8) (omega arith)))

-- a byte is the number that its binary digits write
digits : ℕ → ℕ
digits x = number_from_digits 2 (map (λ j. x / 2 ^ (7 - j) % 2 % 2) (range_with_len 0 8))

together : (x : ℕ) → x < 256 → digits x ≡ x
unfolding digits
together x h = eqb→eq _ _ (upto-at 256 (λ x. nat_eq (digits x) x) tt x h)

same_map : (f g : ℕ → ℕ) (n : ℕ) → ((k : ℕ) → k < n → f k ≡ g k) → map f (range_with_len 0 n) ≡ map g (range_with_len 0 n)
same_map f g n same =
    fill_by_all g (map f (range_with_len 0 n)) n 0 (length-map-range_with_len f 0 n) (λ k h. get_or-map-range_with_len f 0 n k k 0 h (omega arith) ∙ same k h)

bit_of : (bs : List ℕ) (n k j : ℕ) → n * 1 ≡ 8 * length bs → k < length bs → j < 8 → slice_index (unpacked eight_a_byte n bs) (8 * k + j) ≡ slice_index bs k / 2 ^ (7 - j) % 2
bit_of bs n k j e h b =
    let d : (8 * k + j) / 8 ≡ k = omega arith in
    let r : (8 * k + j) % 8 ≡ j = omega arith in
    unpacked-at eight_a_byte n bs (8 * k + j) (omega arith)
    ∙ ap (λ (g : ℕ). slice_index bs g / 2 ^ (7 - (8 * k + j) % 8) % 2) d
    ∙ ap (λ (t : ℕ). slice_index bs k / 2 ^ (7 - t) % 2) r

written_at : (bs : List ℕ) (n k : ℕ) → Under 256 bs → n * 1 ≡ 8 * length bs → k < length bs → slice_index bs k ≡ eight_a_byte.byte_of (unpacked eight_a_byte n bs) k
unfolding digits
written_at bs n k u e h =
    let f : ℕ → ℕ = λ j. slice_index bs k / 2 ^ (7 - j) % 2 % 2 in
    let g : ℕ → ℕ = λ j. slice_index (unpacked eight_a_byte n bs) (8 * k + j) % 2 in
    sym (together (slice_index bs k) (u k h))
    ∙ ap (number_from_digits 2) (same_map f g 8 (λ j b. sym (ap (λ (x : ℕ). x % 2) (bit_of bs n k j e h b))))

pub eight_a_byte_lays : Lays 32 2 eight_a_byte
eight_a_byte_lays = record {
  kind_byte = lit< tt;
  kind_report = λ e. omega arith;
  kind_other = λ a b. omega arith;
  whole = refl;
  short = lit≤ tt;
  codes_back = λ xs n u e. sym (all-unpacked eight_a_byte _ xs (length xs) refl (λ i h. read_at xs n i u e h));
  bytes_back = λ bs n u e. sym (all-packed eight_a_byte _ bs (length bs) refl (λ k h. written_at bs n k u e h));
}
