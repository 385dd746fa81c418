use Rattle.std.proofs.Common.{◌≡◌, ◌+◌, get_or}
use Rattle.elimination.specs.Loops.{turns}
use Rattle.receiver.specs.Alignment.{with_packet}
use Rattle.receiver.proofs.state.State.align.Given as goal

abbrev pub invariant-loop-i : goal.invariant-loop-i
invariant-loop-i g l =
    l.row ≡ turns (λ i. with_packet g.F.Field.means 32 l.self (l.frame.base + i) (get_or l.frame.slots i 0)) l.initial.row l.i
