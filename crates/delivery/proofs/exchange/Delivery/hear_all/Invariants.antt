use Rattle.std.proofs.Common.{ℕ, Bool, List}
use Rattle.link.specs.declared.plain.PlainLink.{PlainLink}
use Rattle.link.specs.declared.scripted.ScriptedLink.{ScriptedLink}
use Rattle.transfer.specs.Calls.{state_of}
use Rattle.delivery.specs.Follows.{Follows, Small}
use Rattle.delivery.specs.Outcome.{linked}
use Rattle.delivery.specs.Rounds.{Course}
use Rattle.delivery.proofs.Loops.{HearsOn}
use Rattle.delivery.proofs.exchange.Delivery.hear_all.Given as goal

-- the hears so far are some of the course's, and the data link is as it was
abbrev pub invariant-loop-report : goal.invariant-loop-report
invariant-loop-report g l =
    let p = linked g.C.Field.means g.C.Carried.carries g.S.Source.means in
    record {
      small : (n : ℕ) → Small n l.initial.self.progress l.initial.self.transfer.forward → Small n l.self.progress l.self.transfer.forward;
      leads : (buffer file before : List ℕ) (shut : Bool) (t : ℕ) (c : Course g.row.S.Denot ScriptedLink PlainLink)
          → Follows p file before shut t c (state_of l.initial.self.transfer) l.initial.self.progress buffer
          → HearsOn p file before shut t c (state_of l.self.transfer) l.self.progress buffer;
    }

abbrev pub decreases-loop-report : goal.decreases-loop-report
decreases-loop-report g l = l.self.transfer.reverse.count
