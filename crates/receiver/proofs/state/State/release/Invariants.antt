use Rattle.receiver.proofs.Releasing.{SoFar}
use Rattle.receiver.proofs.state.State.release.Given as goal

abbrev pub invariant-loop-count : goal.invariant-loop-count
invariant-loop-count l = SoFar 32 l.initial.self l.initial.numbers l.count l.self l.numbers
