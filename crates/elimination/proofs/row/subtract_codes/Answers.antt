use Rattle.std.proofs.Common.{rules}
use Rattle.std.proofs.lemmas.List.FromFn.{fill_by_all}
use Rattle.elimination.specs.Rows.{less, less_all}
use Rattle.elimination.proofs.row.subtract_codes.Goals as goal

pub returns : goal.returns
unfolding less_all
returns g c =
    fill_by_all (less g.F.Field.means c.args.factor c.args.other.now c.args.target.now) _ _ 0 (search rules) (λ k h. search rules)
