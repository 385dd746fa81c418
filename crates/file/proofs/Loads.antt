-- What the packets of a file hold, byte by byte.
use Rattle.std.proofs.Common.{◌≡◌, ℕ, ◌-◌, ◌/◌, ◌%◌, ◌<◌, ◌≤◌, List, [], ◌∷◌, length, get_or, ap, ◌∙◌, inl, inr, div-one, arith}
use Rattle.std.proofs.lemmas.List.FromFn.{get_or-map-range_with_len, length-map-range_with_len}
use Rattle.std.proofs.lemmas.List.{get_or_append_left, get_or-append_right}
use Rattle.std.proofs.lemmas.Bool.{cases_lt}
use Rattle.file.specs.Filled.{File}
use Rattle.file.specs.Packets.{loaded}
use Rattle.file.specs.Spelling.{digit, spelled}

-- the four bytes of a length
pub four : (n : ℕ) → spelled 256 4 n ≡ (n / 16777216 % 256) ∷ (n / 65536 % 256) ∷ (n / 256 % 256) ∷ (n % 256) ∷ []
unfolding spelled
four n = ap (λ (x : ℕ). (n / 16777216 % 256) ∷ (n / 65536 % 256) ∷ (n / 256 % 256) ∷ (x % 256) ∷ []) (div-one n)

length_four : (n : ℕ) → length (spelled 256 4 n) ≡ 4
unfolding spelled
length_four n = length-map-range_with_len (digit 256 4 n) 0 4

pub loaded-length : (file : List ℕ) (i : ℕ) → i < 4 → get_or (loaded file) i 0 ≡ get_or (spelled 256 4 (length file)) i 0
unfolding loaded
loaded-length file i h = get_or_append_left (spelled 256 4 (length file)) file 0 i (omega (arith, length_four (length file)))

pub loaded-file : (file : List ℕ) (i : ℕ) → 4 ≤ i → get_or (loaded file) i 0 ≡ get_or file (i - 4) 0
unfolding loaded
loaded-file file i h = get_or-append_right (spelled 256 4 (length file)) file 4 i 0 (length_four (length file)) h

pub length_byte : (n i : ℕ) → i < 4 → get_or (spelled 256 4 n) i 0 ≡ digit 256 4 n i
unfolding spelled
length_byte n i h = get_or-map-range_with_len (digit 256 4 n) 0 4 i i 0 h (omega arith)

-- all are bytes
pub loaded_byte : (file : List ℕ) → File file → (i : ℕ) → get_or (loaded file) i 0 < 256
loaded_byte file f i =
    elim (cases_lt i 4) [
      | inl h ↦ let e = loaded-length file i h ∙ length_byte (length file) i h in omega arith
      | inr h ↦ let e = loaded-file file i h in let b = f.bytes (i - 4) in omega arith
    ]
