use Rattle.std.proofs.Common.{◌≡◌, ℕ, ◌-◌, ◌*◌, true, List}
use Rattle.link.specs.declared.plain.PlainLink.{PlainLink}
use Rattle.link.specs.declared.scripted.ScriptedLink.{ScriptedLink}
use Rattle.transfer.specs.Calls.{state_of}
use Rattle.delivery.specs.Follows.{Follows, Small}
use Rattle.delivery.specs.Outcome.{linked}
use Rattle.delivery.specs.Phases.{file_packet}
use Rattle.delivery.specs.Rounds.{Course, closing}
use Rattle.delivery.proofs.rounds.Delivery+Sealed+C+S.sealed_rounds.Given as goal

-- the rounds so far are some of the course's
abbrev pub invariant-loop-round : goal.invariant-loop-round
invariant-loop-round g l =
    let p = linked g.C.Field.means g.C.Carried.carries g.S.Source.means in
    Small (4 * l.round) l.self.progress l.self.transfer.forward
    × ((file before : List ℕ) (c : Course g.row.S.Denot ScriptedLink PlainLink)
    → Follows p file before true l.count c (state_of l.initial.self.transfer) l.initial.self.progress l.initial.buffer
    → (d : Course g.row.S.Denot ScriptedLink PlainLink) × Follows p file before true l.count d (state_of l.self.transfer) l.self.progress l.buffer
    × (closing 32 p (file_packet p file) l.count (64000 - l.round) d ≡ closing 32 p (file_packet p file) l.count (64000 - l.made) c))
