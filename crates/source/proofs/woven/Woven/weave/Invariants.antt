use Rattle.std.proofs.Common.{◌≡◌, ℕ, ◌<◌, get_or}
use Rattle.source.specs.OfWoven.{codes}
use Rattle.source.proofs.Weaving.{after}
use Rattle.source.proofs.woven.Woven.weave.Given as goal

abbrev pub invariant-loop-slot : goal.invariant-loop-slot
invariant-loop-slot l = record {
  source : l.self ≡ after l.initial.self l.slot-index;
  filled : (k : ℕ) → k < l.slot-index → get_or l.slot-items k 0 ≡ codes l.initial.self l.order k;
}
