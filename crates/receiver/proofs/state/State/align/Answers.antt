use Rattle.std.proofs.Common.{◌≡◌, ℕ, ◌+◌, ◌<◌, get_or, ap, ◌∙◌, arith}
use Rattle.std.proofs.lemmas.List.{get_or-take}
use Rattle.elimination.proofs.Turns.{turns-none, turns_more}
use Rattle.receiver.specs.Alignment.{with_packet}
use Rattle.receiver.proofs.state.State.align.Goals as goal

pub loop-i-init : goal.loop-i-init
loop-i-init g c = turns-none _ _

pub loop-i-preserved : goal.loop-i-preserved
loop-i-preserved g c =
    let d = c.args.frame.now in
    let i = c.loop-i.i in
    let part = c.coefficients-coefficient-items in
    let f = λ (i : ℕ). with_packet g.F.Field.means 32 c.args.self.now (d.base + i) (get_or d.slots i 0) in
    let low : i < d.width = omega arith in
    let read : get_or part.result.now i 0 ≡ get_or d.slots i 0 = ap (λ xs. get_or xs i 0) part.ensures.exact ∙ get_or-take d.width d.slots i 0 low in
    turns_more f _ _ c.loop-i.row _ c.loop-i.invariant
    (c.enter.ensures ∙ ap (λ b. with_packet g.F.Field.means 32 c.args.self.now (b + i) (get_or part.result.now i 0) c.loop-i.row) c.base.ensures.exact
    ∙ ap (λ a. with_packet g.F.Field.means 32 c.args.self.now (d.base + i) a c.loop-i.row) read)
