use Rattle.std.proofs.Common.{◌≡◌, ◌+◌, ◌-◌, ◌*◌, Ok, ap, ◌∙◌, arith, rules}
use borrow.Rule.Slice.PartMut.{put_mid}
use Rattle.receiver.proofs.Releasing.{so_far-none, so_far_more, so_far_stop}
use Rattle.receiver.specs.Arrival.{arrival}
use Rattle.receiver.specs.declared.state.Answer.TheVariants.{Fresh}
use Rattle.receiver.proofs.state.State.release.Goals as goal

pub loop-count-init : goal.loop-count-init
loop-count-init c = so_far-none _ _ _

pub loop-count-preserved : goal.loop-count-preserved
loop-count-preserved c =
    let n = c.loop-count.count in
    let k : 128 * n + 128 - 128 * n ≡ 128 = omega arith in
    so_far_more _ _ _ _ _ _ c.loop-count.invariant c.in-Some.packet _ _ c.in-Some.ensures.packet (search rules) c.in-Some.ensures.state
    (ap (λ j. put_mid (128 * n) j c.loop-count.numbers c.copy_from_slice.new.self) k ∙ ap (put_mid (128 * n) 128 c.loop-count.numbers) c.copy_from_slice.ensures.after)

pub returns-in_default : goal.returns-in_default
returns-in_default c =
    ap (λ s. arrival (Ok (Fresh c.loop-count.count)) s c.loop-count.numbers) c.in_default.ensures.state
    ∙ so_far_stop _ _ _ _ _ _ c.loop-count.invariant (omega arith) c.in_default.ensures.packet
