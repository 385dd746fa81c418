use Rattle.std.proofs.Common.{ℕ, List, get_or, sym, ap, ◌∙◌, arith, rules}
use Rattle.std.proofs.lemmas.Option.{gets}
use Rattle.file.proofs.Loads.{four, loaded-length, loaded-file}
use Rattle.file.proofs.packets.held.Goals as goal

pub returns-then-i-lt4 : goal.returns-then-i-lt4
returns-then-i-lt4 c =
    ap (λ (bytes : List ℕ). get_or bytes c.args.i 0) (c.to_be_bytes-length.ensures ∙ sym (four _))
    ∙ sym (loaded-length c.args.file.now c.args.i (omega arith))

pub returns : goal.returns
returns c = search (rules, gets) ∙ sym (loaded-file c.args.file.now c.args.i (omega arith))
