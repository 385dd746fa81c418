use Rattle.std.proofs.Common.{◌≡◌, ◌++◌, length, take, drop}
use Rattle.receiver.specs.Reports.{unseen}
use Rattle.receiver.proofs.state.State.missing.Given as goal

abbrev pub invariant-loop-k : goal.invariant-loop-k
invariant-loop-k l =
    (goal.iterator-loop-k).can_next l.k-iterator
    × (goal.iterator-loop-k).is_finite l.k-iterator
    × (l.count ≡ length l.yielded)
    × (l.numbers ≡ take l.count (unseen 32 l.self) ++ drop l.count l.fn.numbers)
