use Rattle.std.proofs.Common.{[], sym, refl, subst, lit<}
use Rattle.elimination.proofs.Absorbing.{no_rows-reduced}
use Rattle.receiver.specs.Start.{at_first, Sound}
use Rattle.receiver.specs.declared.state.State.{State}
use Rattle.receiver.proofs.Faith.{promised}
use Rattle.receiver.proofs.receiver.Receiver.new.Goals as goal

pub returns-clause-reduced : goal.returns-clause-reduced
returns-clause-reduced g c =
    let m = g.C.Field.means in subst (λ (s : State). Sound m 32 s) (sym c.new.ensures) (no_rows-reduced m 32 0)

pub returns-clause-stands : goal.returns-clause-stands
returns-clause-stands g c =
    promised g.C.Field.means g.met.C.Field.laws g.C.Carried.carries 32 (lit< tt) g.met.C.Carried.lays refl [] (at_first 32) refl
