use Rattle.std.proofs.Common.{[], refl, lit<}
use Rattle.transfer.specs.Parts.{started}
use Rattle.transfer.proofs.Following.{together}
use Rattle.transfer.proofs.Standing.{stands}
use Rattle.transfer.proofs.OpenTransfer+C+S+D+R.new.Goals as goal

pub returns-clause-stands : goal.returns-clause-stands
returns-clause-stands g c =
    stands 32 (lit< tt) refl _ (together g.met.C.Field.laws g.met.C.Carried.lays g.met.S.Source.laws g.met.D.Link.laws g.met.R.Link.laws)
    c.args.source c.args.forward c.args.reverse [] (started 32 c.args.source c.args.forward c.args.reverse) refl
