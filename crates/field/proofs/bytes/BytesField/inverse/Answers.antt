use Rattle.std.proofs.Common.{◌%◌, ◌<◌, eqb, Some, None, sym, ap, ◌∙◌, mod-lt, arith, lit<}
use Rattle.std.proofs.lemmas.Bool.{cond-false, ne_eqb}
use Rattle.field.specs.OfBytes.{squares}
use Rattle.field.proofs.Tables.{inverse_by_logs}
use Rattle.field.proofs.bytes.BytesField.inverse.Goals as goal

pub returns : goal.returns
returns c =
    let a = c.args.a % 256 in
    let pos : 0 < a = omega arith in
    let log = c.logarithm.ensures in
    ap Some (inverse_by_logs a _ _ pos (mod-lt _ (lit< tt)) log.below log.undoes c.power.ensures)
    ∙ sym (cond-false (eqb a 0) None (Some (squares 7 a)) (ne_eqb a 0 (λ z. omega arith)))
