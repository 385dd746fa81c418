use Rattle.std.proofs.Common.{◌≡◌, ◌-◌, ◌*◌, ◌≤◌, false}
use Rattle.link.specs.declared.plain.PlainLink.{PlainLink}
use Rattle.link.specs.declared.scripted.ScriptedLink.{ScriptedLink}
use Rattle.transfer.specs.Calls.{state_of}
use Rattle.delivery.specs.Follows.{Follows, Small}
use Rattle.delivery.specs.Outcome.{linked}
use Rattle.delivery.specs.Phases.{file_packet, count_of}
use Rattle.delivery.specs.Rounds.{Course, rounds}
use Rattle.delivery.proofs.rounds.Delivery+Open+C+S.open_rounds.Given as goal

-- the rounds so far are some of the course's
abbrev pub invariant-loop-made : goal.invariant-loop-made
invariant-loop-made g l =
    let p = linked g.C.Field.means g.C.Carried.carries g.S.Source.means in
    (l.admitted ≤ l.count)
    × Small (4 * l.made) l.self.progress l.self.transfer.forward
    × ((c : Course g.row.S.Denot ScriptedLink PlainLink)
    → Follows p l.file.bytes.now l.initial.buffer false 0 c (state_of l.initial.self.transfer) l.initial.self.progress l.initial.buffer
    → (d : Course g.row.S.Denot ScriptedLink PlainLink) × Follows p l.file.bytes.now l.initial.buffer false l.admitted d (state_of l.self.transfer) l.self.progress l.buffer
    × (rounds 32 p (file_packet p l.file.bytes.now) (count_of p l.file.bytes.now) (64000 - l.made) d ≡ rounds 32 p (file_packet p l.file.bytes.now) (count_of p l.file.bytes.now) 64000 c))
