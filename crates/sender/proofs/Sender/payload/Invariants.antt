use Rattle.std.proofs.Common.{◌≡◌, ℕ, ◌+◌, ◌<◌, length, get_or}
use Rattle.field.specs.Field.{times}
use Rattle.algebra.specs.Streams.{sum}
use Rattle.sender.specs.Steps.{packet_at}
use Rattle.sender.proofs.Sender.payload.Given as goal

abbrev pub invariant-loop-i : goal.invariant-loop-i
invariant-loop-i g l = record {
  long : length l.sum ≡ 128;
  sums : (p : ℕ) → p < 128
      → get_or l.sum p 0 ≡ sum g.C.Field.means l.i (λ i. times g.C.Field.means (get_or l.slots i 0) (get_or (packet_at 32 l.self.window (l.self.window.unseen + i)) p 0));
}
