-- What the proofs of the three layouts share: their laws, from place to place.
use Rattle.std.specs.Prelude.{◌≡◌, ℕ, ◌<◌, List, length, slice_index}
use Rattle.std.proofs.Common.{sym, subst, inl, inr, arith}
use Rattle.std.proofs.lemmas.List.FromFn.{get_or-map-range_with_len, length-map-range_with_len, fill_by_all}
use Rattle.std.proofs.lemmas.List.{get_or_past}
use Rattle.std.proofs.lemmas.Bool.{cases_lt}
use Rattle.carried.specs.Carries.{Carries, Under, packed, unpacked}

-- past the end stands 0, which is below any n but 0
pub below : (n : ℕ) (xs : List ℕ) → 0 < n → Under n xs → (k : ℕ) → slice_index xs k < n
below n xs pos u k =
    elim (cases_lt k (length xs)) [
      | inl h ↦ u k h
      | inr h ↦ subst (λ (x : ℕ). x < n) (sym (get_or_past xs k 0 h)) pos
    ]

pub length-packed : (c : Carries) (n : ℕ) (codes : List ℕ) → length (packed c n codes) ≡ n
unfolding packed
length-packed c n codes = length-map-range_with_len (c.byte_of codes) 0 n

pub length-unpacked : (c : Carries) (n : ℕ) (bytes : List ℕ) → length (unpacked c n bytes) ≡ n
unfolding unpacked
length-unpacked c n bytes = length-map-range_with_len (c.code_of bytes) 0 n

pub packed-at : (c : Carries) (m : ℕ) (xs : List ℕ) (k : ℕ) → k < m → slice_index (packed c m xs) k ≡ c.byte_of xs k
unfolding packed
packed-at c m xs k h = get_or-map-range_with_len (c.byte_of xs) 0 m k k 0 h (omega arith)

pub unpacked-at : (c : Carries) (n : ℕ) (bs : List ℕ) (i : ℕ) → i < n → slice_index (unpacked c n bs) i ≡ c.code_of bs i
unfolding unpacked
unpacked-at c n bs i h = get_or-map-range_with_len (c.code_of bs) 0 n i i 0 h (omega arith)

pub all-packed : (c : Carries) (codes bytes : List ℕ) (n : ℕ) → length bytes ≡ n → ((k : ℕ) → k < n → slice_index bytes k ≡ c.byte_of codes k) → bytes ≡ packed c n codes
unfolding packed
all-packed c codes bytes n e each = fill_by_all (c.byte_of codes) bytes n 0 e each

pub all-unpacked : (c : Carries) (bytes codes : List ℕ) (n : ℕ) → length codes ≡ n → ((i : ℕ) → i < n → slice_index codes i ≡ c.code_of bytes i) → codes ≡ unpacked c n bytes
unfolding unpacked
all-unpacked c bytes codes n e each = fill_by_all (c.code_of bytes) codes n 0 e each
