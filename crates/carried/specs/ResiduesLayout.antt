-- Two bytes a code keep their laws.
use Rattle.std.specs.Prelude.{◌≡◌, ℕ, ◌+◌, ◌*◌, ◌/◌, ◌%◌, ◌<◌, List, length, ◌==◌, slice_index, slice_index_or, refl}
use Rattle.std.proofs.Common.{sym, ap, ◌∙◌, inl, inr, arith, lit<, lit≤}
use Rattle.std.proofs.lemmas.Bool.{cases_eq, cond-true, cond-false, eq-eqb, ne_eqb}
use Rattle.carried.specs.Carries.{Lays, Under, packed, unpacked}
use Rattle.carried.specs.Layouts.{two_bytes}
use Rattle.carried.specs.Places.{below, packed-at, unpacked-at, all-packed, all-unpacked}

high : (xs : List ℕ) (k : ℕ) → k % 2 ≡ 0 → two_bytes.byte_of xs k ≡ slice_index xs (k / 2) / 256
high xs k e = cond-true (k % 2 == 0) _ _ (eq-eqb (k % 2) 0 e)

low : (xs : List ℕ) (k : ℕ) → k % 2 ≡ 1 → two_bytes.byte_of xs k ≡ slice_index xs (k / 2) % 256
low xs k e = cond-false (k % 2 == 0) _ _ (ne_eqb (k % 2) 0 (λ z. omega arith))

read_at : (xs : List ℕ) (n i : ℕ) → length xs * 16 ≡ 8 * n → i < length xs → slice_index xs i ≡ two_bytes.code_of (packed two_bytes n xs) i
read_at xs n i e h =
    let first : slice_index_or (packed two_bytes n xs) (2 * i) 0 ≡ slice_index xs i / 256 = packed-at two_bytes n xs (2 * i) (omega arith) ∙ high xs (2 * i) (omega arith) ∙ ap (λ (j : ℕ). slice_index xs j / 256) (omega arith) in
    let second : slice_index_or (packed two_bytes n xs) (2 * i + 1) 0 ≡ slice_index xs i % 256 = packed-at two_bytes n xs (2 * i + 1) (omega arith) ∙ low xs (2 * i + 1) (omega arith) ∙ ap (λ (j : ℕ). slice_index xs j % 256) (omega arith) in
    omega (arith, first, second)

written_at : (bs : List ℕ) (n k : ℕ) → Under 256 bs → n * 16 ≡ 8 * length bs → k < length bs → slice_index bs k ≡ two_bytes.byte_of (unpacked two_bytes n bs) k
written_at bs n k u e h =
    let g = k / 2 in
    let whole : slice_index_or (unpacked two_bytes n bs) g 0 ≡ slice_index bs (2 * g) * 256 + slice_index_or bs (2 * g + 1) 0 = unpacked-at two_bytes n bs g (omega arith) in
    let second = below 256 bs (lit< tt) u (2 * g + 1) in
    elim (cases_eq (k % 2) 0) [
      | inl even ↦
          let is : slice_index_or bs (2 * g) 0 ≡ slice_index (unpacked two_bytes n bs) g / 256 = omega (arith, whole, second) in
          ap (λ (j : ℕ). slice_index bs j) (omega arith) ∙ is ∙ sym (high (unpacked two_bytes n bs) k even)
      | inr odd ↦
          let is : slice_index_or bs (2 * g + 1) 0 ≡ slice_index (unpacked two_bytes n bs) g % 256 = omega (arith, whole, second) in
          ap (λ (j : ℕ). slice_index bs j) (omega (arith, odd)) ∙ is ∙ sym (low (unpacked two_bytes n bs) k (omega (arith, odd)))
    ]

pub two_bytes_lay : Lays 32 257 two_bytes
two_bytes_lay = record {
  kind_byte = lit< tt;
  kind_report = λ e. omega arith;
  kind_other = λ a b. omega arith;
  whole = refl;
  short = lit≤ tt;
  codes_back = λ xs n u e. sym (all-unpacked two_bytes _ xs (length xs) refl (λ i h. read_at xs n i e h));
  bytes_back = λ bs n u e. sym (all-packed two_bytes _ bs (length bs) refl (λ k h. written_at bs n k u e h));
}
