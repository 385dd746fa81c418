use Rattle.std.proofs.Common.{◌≡◌, ℕ, ◌≤◌, List, length, Err, ap, ◌∙◌, subst, arith}
use Rattle.std.proofs.lemmas.Result.{err_from_is_err_and}
use Rattle.link.specs.declared.scripted.ScriptedLink.{ScriptedLink}
use Rattle.delivery.specs.Phases.{CarriesOut}
use Rattle.delivery.specs.Outcome.{setup_of}
use Rattle.delivery.proofs.Judging.{opened_new, bad_script, long-file, carried}
use Rattle.delivery.proofs.running.run.Goals as goal

pub returns-in_err-forward : goal.returns-in_err-forward
returns-in_err-forward c =
    let p = err_from_is_err_and c.from_residual.result c.from_residual.ensures.1 in
    let job = c.args.job in
    let first = c.in-Some.ensures.cases in
    let is : c.from_residual.result ≡ Err c.in_err-forward.field-0.0 = p.1 ∙ ap Err p.2 in
    let judged = bad_script job.field job.source job.script.now job.file.now c.args.buffer.now c.in-Some.buffer.now first _ c.in_err-forward.ensures.exact _ is in
    record { exact = judged.0; ends = judged.1 }

pub returns-in_err-file : goal.returns-in_err-file
returns-in_err-file c =
    let p = err_from_is_err_and c.from_residual-in_err-file.result c.from_residual-in_err-file.ensures.1 in
    let job = c.args.job in
    let first = c.in-Some.ensures.cases in
    let is : c.from_residual-in_err-file.result ≡ Err c.in_err-file.field-0.0 = p.1 ∙ ap Err p.2 in
    let judged = long-file job.field job.source job.script.now job.file.now c.args.buffer.now c.in-Some.buffer.now first _ c.in_ok-forward.ensures.exact _ c.in_err-file.ensures _ is in
    record { exact = judged.0; ends = judged.1 }

pub in_field-requires : goal.in_field-requires
in_field-requires c = ap (λ (x : ScriptedLink). x.queue.count) (opened_new c.args.job.script.now c.in_ok-forward.forward c.in_ok-forward.ensures.exact).1

pub returns : goal.returns
returns c =
    let job = c.args.job in
    let first = c.in-Some.ensures.cases in
    let file = c.in_ok-file.file.bytes.now in
    let x = setup_of job.field job.source in
    let came = c.in_field.ensures job.script.now (opened_new job.script.now c.in_ok-forward.forward c.in_ok-forward.ensures.exact).1 in
    let is : file ≡ job.file.now = c.in_ok-file.ensures in
    let short : length job.file.now ≤ 16000 = omega (arith, c.in_ok-file.file.is_file.short, ap (λ (xs : List ℕ). length xs) is) in
    let judged = carried job.field job.source job.script.now job.file.now c.args.buffer.now c.in-Some.buffer.now first _ c.in_ok-forward.ensures.exact short _ _
    (subst (λ (f : List ℕ). CarriesOut x.parts f x.source job.script.now c.in-Some.buffer.now c.in_field.result c.in_field.new.buffer) is came) in
    record { exact = judged.0; ends = judged.1 }
