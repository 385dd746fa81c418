use Rattle.std.proofs.Common.{◌≡◌, ℕ, false, List}
use Rattle.link.specs.declared.plain.PlainLink.{PlainLink}
use Rattle.link.specs.declared.scripted.ScriptedLink.{ScriptedLink}
use Rattle.transfer.specs.Calls.{state_of}
use Rattle.delivery.specs.declared.progress.Progress.{Progress}
use Rattle.delivery.specs.Follows.{Follows}
use Rattle.delivery.specs.Outcome.{linked}
use Rattle.delivery.specs.Rounds.{Course}
use Rattle.delivery.proofs.Admitting.{AdmitsLeft}
use Rattle.delivery.proofs.rounds.admit_all.Given as goal

-- the packets so far were admitted, and the data link is left
abbrev pub invariant-loop-number : goal.invariant-loop-number
invariant-loop-number g l =
    let p = linked g.C.Field.means g.C.Carried.carries g.S.Source.means in
    (l.transfer.forward ≡ l.initial.transfer.forward)
    × ((v : Progress g.row.C.Denot) (before buffer : List ℕ) (c : Course g.row.S.Denot ScriptedLink PlainLink)
    → Follows p l.file.bytes.now before false l.admitted c (state_of l.initial.transfer) v buffer
    → AdmitsLeft p l.file.bytes.now before l.number c (state_of l.transfer) v buffer)
