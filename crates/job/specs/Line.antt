-- The job line, and which refusal comes for which bytes.
use Rattle.std.specs.Prelude.{◌≡◌, ℕ, ◌+◌, cond, List, [], ◌∷◌, length, take, drop, Some, None, Ok, Err, Option, Result, ◌==◌, nat_le, position}
use Rattle.std.specs.Option.{option_map, ok_or}
use Rattle.refusal.specs.declared.Refusal.{Refusal}
use Rattle.refusal.specs.declared.Refusal.TheVariants.{BadLine, BadScript, LongFile}
use Rattle.link.specs.Script.{proper}
use Rattle.job.specs.declared.line.FieldKind.{FieldKind}
use Rattle.job.specs.declared.line.FieldKind.TheVariants.{Bits, Bytes, Residues}
use Rattle.job.specs.declared.line.SourceKind.{SourceKind}
use Rattle.job.specs.declared.line.SourceKind.TheVariants.{Plain, Woven}

-- the bytes before the first newline, 10, and those after it
abbrev pub split : List ℕ → Option (List ℕ × List ℕ)
split bs = option_map (λ i. (take i bs, drop (i + 1) bs)) (position (λ b. b == 10) bs)

-- the digits 1, 2 and 3 ask for bits, bytes and residues
abbrev pub field_kind : ℕ → Option FieldKind
field_kind d = cond (d == 49) (Some Bits) (cond (d == 50) (Some Bytes) (cond (d == 51) (Some Residues) None))

-- the digits 1 and 2 ask for the plain and the woven source
abbrev pub source_kind : ℕ → Option SourceKind
source_kind d = cond (d == 49) (Some Plain) (cond (d == 50) (Some Woven) None)

-- what a digit is read as
abbrev pub FieldRead : ℕ → Result FieldKind Refusal → Type 0
FieldRead d r = r ≡ ok_or (field_kind d) BadLine

abbrev pub SourceRead : ℕ → Result SourceKind Refusal → Type 0
SourceRead d r = r ≡ ok_or (source_kind d) BadLine

-- a job, as its line asks for it
pub record Asked : Type 0 where
  pub field : FieldKind
  pub source : SourceKind
  pub script : List ℕ
  pub file : List ℕ

-- the script is checked before the file's length
abbrev pub checked : FieldKind → SourceKind → List ℕ → List ℕ → Result Asked Refusal
checked f s script file =
    cond (proper 64 script)
    (cond (nat_le (length file) 16000) (Ok (record { field = f; source = s; script = script; file = file })) (Err LongFile))
    (Err BadScript)

-- both digits are right
abbrev pub kinds : Option FieldKind → Option SourceKind → List ℕ → List ℕ → Result Asked Refusal
kinds None s script file = Err BadLine
kinds (Some f) None script file = Err BadLine
kinds (Some f) (Some s) script file = checked f s script file

-- a line is two digits, a space, 32, and a script
abbrev pub lined : List ℕ → List ℕ → Result Asked Refusal
lined [] file = Err BadLine
lined (f ∷ []) file = Err BadLine
lined (f ∷ (s ∷ [])) file = Err BadLine
lined (f ∷ (s ∷ (b ∷ script))) file = cond (b == 32) (kinds (field_kind f) (source_kind s) script file) (Err BadLine)

-- a job is a line, a newline and the file
abbrev pub parsed : List ℕ → Result Asked Refusal
parsed input = elim (split input) [ None ↦ Err BadLine | Some parts ↦ lined parts.0 parts.1 ]
