use Rattle.std.proofs.Common.{arith}
use Rattle.std.proofs.lemmas.List.FromFn.{fill_by_all}
use Rattle.file.specs.Spelling.{base, digit, digits, spelled}
use Rattle.file.proofs.spelling.Spelling.spell.Goals as goal

pub returns : goal.returns
unfolding spelled
returns c =
    let s = c.args.self in
    fill_by_all (digit (base s) (digits s) c.args.byte) _ (digits s) 0 (omega arith) (λ k h. c.loop-place.invariant k (omega arith))
