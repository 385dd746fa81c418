use Rattle.std.proofs.Common.{◌≡◌, true, false, refl, rules, tests}
use Rattle.std.proofs.lemmas.Iterator.{first_from_Range}
use Rattle.elimination.proofs.Seeking.{seek_from}
use Rattle.elimination.specs.Rows.{nonzero}
use Rattle.elimination.proofs.row.Row.first.Goals as goal

pub returns : goal.returns
returns c =
    let p = nonzero 32 c.args.start c.args.self.now in
    seek_from p 0 32 32 refl _ (first_from_Range _ _ _ _ (λ k. p k ≡ true) (λ k. p k ≡ false) c.find.ensures.ran (λ x q k. search (rules, tests)) (λ x q k. search (rules, tests)))
