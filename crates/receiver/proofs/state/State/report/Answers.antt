use Rattle.std.proofs.Common.{◌≡◌, ◌-◌, true, false, ap, arith, rules, tests}
use Rattle.std.proofs.lemmas.Iterator.{first_from_Range}
use Rattle.elimination.proofs.Seeking.{seek_from}
use Rattle.elimination.specs.Loops.{seek}
use Rattle.receiver.specs.Held.{Held}
use Rattle.receiver.specs.Reports.{lacks}
use Rattle.receiver.proofs.state.State.report.Goals as goal

pub returns : goal.returns
returns c =
    let q = c.self.inside in
    let p = lacks 32 c.args.self.now in
    let from = ap (λ (h : Held). h.released) c.self.view_is in
    let first : c.find-unseen.result ≡ seek p q.released (65536 - q.released) =
    seek_from p q.released (65536 - q.released) 65536 (omega (arith, c.self.invariant.0)) _
    (first_from_Range _ _ _ _ (λ k. p k ≡ true) (λ k. p k ≡ false) c.find-unseen.ensures.ran (λ x q k. search (rules, tests)) (λ x q k. search (rules, tests))) in
    cc
