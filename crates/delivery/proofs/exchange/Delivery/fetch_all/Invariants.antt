use Rattle.std.proofs.Common.{◌≡◌, ℕ, Bool, List, length}
use Rattle.link.specs.declared.plain.PlainLink.{PlainLink}
use Rattle.link.specs.declared.scripted.ScriptedLink.{ScriptedLink}
use Rattle.transfer.specs.Calls.{state_of}
use Rattle.delivery.specs.Follows.{Follows, Small}
use Rattle.delivery.specs.Outcome.{linked}
use Rattle.delivery.specs.Rounds.{Course}
use Rattle.delivery.proofs.Loops.{FetchesOn}
use Rattle.delivery.proofs.exchange.Delivery.fetch_all.Given as goal

-- the fetches so far are some of the course's, and the counts grew by no more than the queue shrank
abbrev pub invariant-loop-answer : goal.invariant-loop-answer
invariant-loop-answer g l =
    let p = linked g.C.Field.means g.C.Carried.carries g.S.Source.means in
    record {
      long : ◌≡◌ {A = ℕ} (length l.self.progress.numbers) 4096;
      room : ◌≡◌ {A = ℕ} (length l.buffer) 16000;
      small : (n : ℕ) → Small n l.initial.self.progress l.initial.self.transfer.forward → Small n l.self.progress l.self.transfer.forward;
      leads : (file before : List ℕ) (shut : Bool) (t : ℕ) (c : Course g.row.S.Denot ScriptedLink PlainLink)
          → Follows p file before shut t c (state_of l.initial.self.transfer) l.initial.self.progress l.initial.buffer
          → FetchesOn p file before shut t c (state_of l.self.transfer) l.self.progress l.buffer;
    }

abbrev pub decreases-loop-answer : goal.decreases-loop-answer
decreases-loop-answer g l = l.self.transfer.forward.queue.count
