use Rattle.std.proofs.Common.{rules}
use Rattle.std.proofs.lemmas.List.Edits.{map_over_more}
use Rattle.std.proofs.lemmas.List.{take_all, drop_all}
use Rattle.field.specs.Field.{times}
use Rattle.elimination.specs.Rows.{times_all}
use Rattle.elimination.proofs.row.scale_codes.Goals as goal

pub loop-code-preserved : goal.loop-code-preserved
loop-code-preserved g c = search (rules, map_over_more (times g.F.Field.means c.args.factor))

pub returns : goal.returns
unfolding times_all
returns g c = search (rules, take_all, drop_all)
