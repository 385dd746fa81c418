use Rattle.std.proofs.Common.{arith, ◌≡◌, ◌++◌, length, drop, Err, sym, ap, ◌∙◌}
use Rattle.std.proofs.lemmas.List.{take-append-drop, length-append, length-drop}
use Rattle.std.proofs.lemmas.Result.{err_from_is_err_and}
use Rattle.receiver.specs.Arrival.{arrival, accepted}
use Rattle.receiver.proofs.Widening.{arrived_unread, arrived_in}
use Rattle.receiver.proofs.state.State.arrive.Goals as goal

pub returns-in_err-frame-clause-exact : goal.returns-in_err-frame-clause-exact
returns-in_err-frame-clause-exact g c =
    let s = c.args.self.now in let numbers = c.args.numbers.now in let e = c.in_err-frame.field-0.0 in
    let chunk = c.in-Some.ensures.cases in
    let p = err_from_is_err_and c.from_residual.result c.from_residual.ensures.1 in
    let refused : c.from_residual.result ≡ Err e = p.1 ∙ ap Err p.2 in
    let left : c.in-Some.numbers.now ++ drop 4096 numbers ≡ numbers = ap (λ xs. xs ++ drop 4096 numbers) chunk.same ∙ take-append-drop 4096 numbers in
    ap (λ r. arrival r s (c.in-Some.numbers.now ++ drop 4096 numbers)) refused ∙ ap (arrival (Err e) s) left
    ∙ arrived_unread g.C.Field.means g.C.Carried.carries 32 s c.args.frame.now numbers chunk.enough e (sym c.read.ensures ∙ c.in_err-frame.was)

pub returns-clause-exact : goal.returns-clause-exact
returns-clause-exact g c =
    let s = c.args.self.now in let numbers = c.args.numbers.now in let d = c.in_ok-frame.frame in
    let chunk = c.in-Some.ensures.cases in
    arrived_in g.C.Field.means g.C.Carried.carries 32 s c.args.frame.now numbers chunk.enough d (arrival c.accept-answer.result c.accept-answer.new.self c.accept-answer.new.numbers)
    (sym c.read.ensures ∙ c.in_ok-frame.was)
    (c.accept-answer.ensures ∙ ap (accepted g.C.Field.means 32 s d) chunk.same)
    (let enough = chunk.enough in
    let long : length c.accept-answer.new.numbers ≡ 4096 = omega (arith, length-append c.accept-answer.new.numbers (drop 4096 numbers), length-drop 4096 numbers) in long)
