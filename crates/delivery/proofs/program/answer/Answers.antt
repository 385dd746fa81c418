use Rattle.std.proofs.Common.{◌≡◌, ℕ, length, vec_items, ◌∙◌, subst, arith}
use Rattle.std.proofs.lemmas.Result.{IfOk-weaker}
use Rattle.delivery.specs.Output.{Within, shown_text}
use Rattle.delivery.proofs.Texts.{never-refused, fits, shown-right}
use Rattle.delivery.proofs.program.answer.Goals as goal

pub outcome-requires : goal.outcome-requires
outcome-requires c =
    let long : 16000 ≡ length c.run.new.buffer = omega arith in
    subst (λ (n : ℕ). Within n c.in-Ok-run.outcome.ending) long (fits c.args.input.now _ c.in-Ok.ensures c.in-Ok-run.outcome c.in-Ok-run.ensures.exact)

pub returns-in-Ok-run : goal.returns-in-Ok-run
returns-in-Ok-run c =
    let right = shown-right c.args.input.now _ c.in-Ok.ensures c.in-Ok-run.outcome c.in-Ok-run.ensures.exact _ c.run.new.buffer c.in-Ok-run.ensures.ends in
    IfOk-weaker c.outcome.result (λ v. vec_items v ≡ shown_text c.run.new.buffer c.in-Ok-run.outcome) _ (λ v e. e ∙ right) c.outcome.ensures

pub returns-in-Err-run : goal.returns-in-Err-run
returns-in-Err-run c = absurd (never-refused c.args.input.now _ c.in-Ok.ensures _ c.in-Err-run.ensures.exact)
