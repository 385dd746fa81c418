use Rattle.std.proofs.Common.{◌≡◌, true, false, ap, ap₂, sym, ◌∙◌}
use Rattle.std.proofs.lemmas.Bool.{and_left, and_right, ne_eqb}
use Rattle.field.specs.Lists.{below}
use Rattle.file.specs.Spelling.{base, spelling_of}
use Rattle.file.proofs.Steps.{checked_bad, checked_bytes, checked_no_byte}
use Rattle.file.proofs.digits.Digits.of.Goals as goal

pub returns-in_default : goal.returns-in_default
returns-in_default g c = checked_bad g.F.Field.means.q c.args.packet.now (and_left _ _ (ne_eqb _ _ c.in_default.ensures.cases))

pub returns-then-not-all_below : goal.returns-then-not-all_below
returns-then-not-all_below g c =
    let no : below g.F.Field.means.q c.args.packet.now ≡ false = ap₂ below (sym (c.Q.ensures ∙ g.met.F.Field.order)) (sym c.in-Some.ensures.cases.same) ∙ sym c.if-not-all_below.ensures in
    checked_bad g.F.Field.means.q c.args.packet.now (and_right _ _ no)

pub returns-then-not-all_below-2 : goal.returns-then-not-all_below-2
returns-then-not-all_below-2 g c =
    let cases = c.in-Some.ensures.cases in
    let q = g.F.Field.means.q in
    let codes : below q c.args.packet.now ≡ true = ap₂ below (sym (c.Q.ensures ∙ g.met.F.Field.order)) (sym cases.same) ∙ sym c.if-not-all_below.ensures in
    let no : below (base (spelling_of q)) c.args.packet.now ≡ false =
    ap₂ below (sym (c.base.ensures ∙ ap base c.of.ensures)) (sym cases.same) ∙ sym c.if-not-all_below-2.ensures in
    checked_no_byte q c.args.packet.now cases.long codes no

pub returns : goal.returns
returns g c =
    let cases = c.in-Some.ensures.cases in
    let q = g.F.Field.means.q in
    let codes : below q c.args.packet.now ≡ true = ap₂ below (sym (c.Q.ensures ∙ g.met.F.Field.order)) (sym cases.same) ∙ sym c.if-not-all_below.ensures in
    let bytes : below (base (spelling_of q)) c.args.packet.now ≡ true =
    ap₂ below (sym (c.base.ensures ∙ ap base c.of.ensures)) (sym cases.same) ∙ sym c.if-not-all_below-2.ensures in
    (checked_bytes q c.args.packet.now cases.long codes bytes, cases.same)
