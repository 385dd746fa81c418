use Rattle.std.proofs.Common.{◌≡◌, ℕ, length}
use Rattle.file.specs.Filled.{Filled}
use Rattle.file.specs.Spelling.{spelling_of}
use Rattle.job.specs.Crossing.{Waits, all_fresh}
use Rattle.job.proofs.carry.carry.Given as goal

-- the packets so far crossed, were fresh, and were taken; the buffer is as long as it was
abbrev pub invariant-loop-number : goal.invariant-loop-number
invariant-loop-number g l = record {
  waits : Waits 32 l.number l.receiver.state;
  tally : l.tally ≡ all_fresh l.number;
  filled : Filled (spelling_of g.C.Field.means.q) l.file.bytes.now l.number l.filling.taken l.filling.size l.buffer;
  long : ◌≡◌ {A = ℕ} (length l.buffer) 16000;
}
