use Rattle.std.proofs.Common.{◌≡◌, take}
use Rattle.std.specs.Int.Digits.{number_from_digits}
use Rattle.file.specs.Spelling.{base}
use Rattle.file.proofs.digits.Digits.byte.Given as goal

abbrev pub invariant-loop-digit : goal.invariant-loop-digit
invariant-loop-digit g l = l.byte ≡ number_from_digits (base l.spelling) (take l.digit-index l.digits)
