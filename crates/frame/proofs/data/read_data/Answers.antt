use Rattle.std.proofs.Common.{◌≡◌, Ok, refl, rules, arith, sym, ◌∙◌}
use Rattle.std.proofs.lemmas.Grind.{common_steps}
use Rattle.frame.specs.DataFrame.{reading}
use Rattle.frame.proofs.Frames.{read_canonical}
use Rattle.frame.proofs.Rules.{proper}
use Rattle.frame.proofs.Verdicts.{none-from_ok}
use Rattle.frame.proofs.data.read_data.Goals as goal

pub returns-clause-proper : goal.returns-clause-proper
returns-clause-proper g c =
    proper g.C.Field.Q 32 _ (search rules) (search rules) (none-from_ok _ (sym c.check.ensures ∙ c.in_ok-check.was))

pub returns-clause-canonical : goal.returns-clause-canonical
returns-clause-canonical g c =
    let lays = g.met.C.Carried.lays in
    let exact : Ok c.unpacked-data.result ≡ reading g.C.Field.means g.C.Carried.carries 32 c.args.frame.now = grind (arith, common_steps) in
    read_canonical g.C.Field.means lays refl _ _ exact (λ i _. (c.type_inv.frame i).fits)
