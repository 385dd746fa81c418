use Rattle.std.proofs.Common.{◌≡◌, sym, subst, rules}
use Rattle.elimination.proofs.Absorbing.{absorbed-reduced}
use Rattle.elimination.specs.Absorption.{Absorption, absorption, absorbed}
use Rattle.elimination.specs.Reduced.{Reduced}
use Rattle.elimination.specs.declared.table.Verdict.TheVariants.{Innovative}
use Rattle.elimination.proofs.table.Table.absorb.Goals as goal

pub returns-clause-reduced : goal.returns-clause-reduced
returns-clause-reduced g c =
    let m = g.F.Field.means in
    let e : absorption (Innovative c.in-Some.distance) c.insert.new.self ≡ absorbed m 32 c.args.start c.args.row c.args.self.now = search rules in
    λ coded red. subst (λ (a : Absorption). Reduced m 32 c.args.start a.table) (sym e) (absorbed-reduced m g.met.F.Field.laws 32 c.args.start c.args.self.now red c.args.row coded)
