use Rattle.std.proofs.Common.{ℕ, ◌%◌, sym, ap, ◌∙◌, inl, inr}
use Rattle.field.specs.OfBytes.{product}
use Rattle.field.proofs.Tables.{by_logs, product_zero_left, product_zero_right}
use Rattle.field.proofs.bytes.BytesField.mul.Goals as goal

pub returns-then-a-eq0 : goal.returns-then-a-eq0
returns-then-a-eq0 c =
    let a = c.args.a % 256 in
    let b = c.args.b % 256 in
    elim c.then-a-eq0.either [
      | inl e ↦ sym (ap (λ (x : ℕ). product x b) e ∙ product_zero_left b)
      | inr e ↦ sym (ap (product a) e.1 ∙ product_zero_right a)
    ]

pub returns : goal.returns
returns c = by_logs _ _ _ _ _ c.logarithm.ensures.undoes c.logarithm-2.ensures.undoes c.power.ensures
