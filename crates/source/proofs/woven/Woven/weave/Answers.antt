use Rattle.std.proofs.Common.{◌≡◌, ℕ, List, ◌<◌, ◌++◌, length, drop, ap, ◌∙◌, arith}
use Rattle.source.specs.OfWoven.{codes}
use Rattle.source.proofs.Weaving.{after, none_yet, goes_on, right, one_right, below_place, all_right}
use Rattle.source.proofs.woven.Woven.weave.Goals as goal

pub loop-slot-init : goal.loop-slot-init
loop-slot-init c = record { source = none_yet c.args.self.now; filled = λ k h. absurd (omega arith) }

pub loop-slot-preserved : goal.loop-slot-preserved
loop-slot-preserved c =
    let x = c.args.self.now in
    let i = c.loop-slot.slot-index in
    let so_far = c.loop-slot.invariant in
    let room : i < length c.loop-slot.slot-items = omega arith in
    record {
      source = goes_on x c.loop-slot.self i so_far.source c.code.new.self c.code.ensures.after;
      filled = one_right (codes x c.args.order) c.loop-slot.slot-items i c.code.result room so_far.filled
          (right x c.loop-slot.self i so_far.source c.args.order c.code.result c.code.ensures.code);
    }

pub returns : goal.returns
returns c =
    let x = c.args.self.now in
    let p = c.args.place in
    let so_far = c.loop-slot.invariant in
    let long = below_place 32 p c.marked.result c.requires.place c.marked.ensures in
    let all : c.loop-slot.slot-index ≡ p = omega arith in
    record {
      slots = ap (λ (xs : List ℕ). c.loop-slot.slot-items ++ drop p xs) c.marked.ensures
          ∙ all_right 32 p (codes x c.args.order) c.loop-slot.slot-items (omega arith) c.requires.place (λ k h. so_far.filled k (omega (arith, all)));
      after = so_far.source ∙ ap (after x) all;
    }
