-- One byte a code keeps its laws.
use Rattle.std.specs.Prelude.{◌≡◌, ℕ, ◌*◌, List, length, refl}
use Rattle.std.proofs.Common.{sym, ◌∙◌, mod-eq_of_lt, arith, lit<, lit≤}
use Rattle.carried.specs.Carries.{Lays, Under, packed, unpacked}
use Rattle.carried.specs.Layouts.{one_byte}
use Rattle.carried.specs.Places.{packed-at, unpacked-at, all-packed, all-unpacked}

codes_back : (codes : List ℕ) (n : ℕ) → Under 256 codes → length codes * 8 ≡ 8 * n → unpacked one_byte (length codes) (packed one_byte n codes) ≡ codes
codes_back codes n u e =
    sym (all-unpacked one_byte _ codes (length codes) refl (λ i h. sym (packed-at one_byte n codes i (omega arith) ∙ mod-eq_of_lt (u i h))))

bytes_back : (bytes : List ℕ) (n : ℕ) → Under 256 bytes → n * 8 ≡ 8 * length bytes → packed one_byte (length bytes) (unpacked one_byte n bytes) ≡ bytes
bytes_back bytes n u e =
    sym (all-packed one_byte _ bytes (length bytes) refl (λ k h. let is = unpacked-at one_byte n bytes k (omega arith) in let b = u k h in omega (arith, is, b)))

pub one_byte_lays : Lays 32 256 one_byte
one_byte_lays = record {
  kind_byte = lit< tt;
  kind_report = λ e. omega arith;
  kind_other = λ a b. omega arith;
  whole = refl;
  short = lit≤ tt;
  codes_back = codes_back;
  bytes_back = bytes_back;
}
