use Rattle.std.proofs.Common.{◌≡◌, ℕ, List, Option, refl, ap, ◌∙◌, arith}
use Rattle.elimination.proofs.Turns.{turns-none, turns_more, by_case}
use Rattle.elimination.specs.Loops.{turns}
use Rattle.exports.specs.Decoding.{Unloading, unload_one, unloading, with_packet}
use Rattle.exports.specs.declared.Packets.{Packets}
use Rattle.exports.proofs.Unloading.{unload_turn}
use Rattle.exports.proofs.unload.Goals as goal
use Rattle.exports.proofs.unload.Goals.{in-Some, in_default}

pub loop-k-init : goal.loop-k-init
loop-k-init c = turns-none _ _

pub loop-k-preserved : goal.loop-k-preserved
loop-k-preserved c =
    let put = λ (o : Option (List ℕ)). with_packet c.loop-k.k o c.loop-k.packets.packets in
    turns_more (unload_one 32) _ _ (unloading c.loop-k.table c.loop-k.packets.packets) _ c.loop-k.invariant
    (unload_turn 32 _ _ _ _ _ c.take_solved.result c.take_solved.ensures.packet c.take_solved.ensures.table
    (elim c.match-take_solved.branch [
      | in-Some w ↦ by_case put _ _ _ _ (ap (λ p. p.packets) w.packets-is) refl w.in-Some.is
      | in_default w ↦ by_case put _ _ _ _ (ap (λ p. p.packets) w.packets-is) refl w.in_default.is
    ]))

pub returns : goal.returns
returns c =
    let all : c.loop-k.k ≡ 32 = omega arith in
    let written : Unloading → Packets = λ u. record { packets = u.packets } in
    ap written (c.loop-k.invariant ∙ ap (turns (unload_one 32) (unloading c.args.table.now c.args.packets.now.packets)) all)
