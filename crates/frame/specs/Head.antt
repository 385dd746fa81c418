-- What all frames share: a kind that fixes the length, numbers of four bytes, and the first refusal that holds.
use Rattle.std.specs.Prelude.{ℕ, ◌+◌, ◌*◌, ◌/◌, ◌%◌, Bool, false, cond, List, [], ◌∷◌, ◌++◌, length, drop, Some, None, Ok, Err, Option, Result, ◌==◌, nat_le, slice_index}
use Rattle.refusal.specs.declared.Refusal.{Refusal}
use Rattle.refusal.specs.declared.Refusal.TheVariants.{ShortBuffer, WrongKind, WrongLength}

-- the bytes begin with a kind
abbrev pub begins : ℕ → List ℕ → Bool
begins kind [] = false
begins kind (b ∷ bs) = b == kind

-- why bytes are no frame of a kind and its length
abbrev pub misfit : ℕ → ℕ → List ℕ → Option Refusal
misfit kind len bytes = cond (begins kind bytes) (cond (length bytes == len) None (Some WrongLength)) (Some WrongKind)

-- why a buffer does not take a frame of some length
abbrev pub too_short : ℕ → List ℕ → Option Refusal
too_short len buffer = cond (nat_le len (length buffer)) None (Some ShortBuffer)

-- the first of two refusals
abbrev pub first : Option Refusal → Option Refusal → Option Refusal
first None later = later
first (Some refusal) later = Some refusal

-- an answer, unless there is a refusal
abbrev pub verdict : {A : Type 0} → Option Refusal → A → Result A Refusal
verdict None answer = Ok answer
verdict (Some refusal) answer = Err refusal

-- the answer of writing a frame of some length at the start of a buffer, and what the buffer then holds
abbrev pub written : Option Refusal → ℕ → List ℕ → List ℕ → Result ℕ Refusal × List ℕ
written None len frame buffer = (Ok len, frame ++ drop len buffer)
written (Some refusal) len frame buffer = (Err refusal, buffer)

-- the four bytes of a number, highest first
abbrev pub four_bytes : ℕ → List ℕ
four_bytes n = n / 16777216 % 256 ∷ n / 65536 % 256 ∷ n / 256 % 256 ∷ n % 256 ∷ []

-- the number that the four bytes from place k on write
abbrev pub number_at : List ℕ → ℕ → ℕ
number_at bytes k = slice_index bytes k * 16777216 + slice_index bytes (k + 1) * 65536 + slice_index bytes (k + 2) * 256 + slice_index bytes (k + 3)
