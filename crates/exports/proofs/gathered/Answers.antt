use Rattle.std.proofs.Common.{ap, ◌∙◌}
use Rattle.elimination.proofs.Turns.{turns-none, turns_more}
use Rattle.exports.specs.Decoding.{gather_one}
use Rattle.exports.proofs.gathered.Goals as goal

pub loop-row-init : goal.loop-row-init
loop-row-init g c = c.new-table.ensures.exact ∙ turns-none _ _

pub loop-row-preserved : goal.loop-row-preserved
loop-row-preserved g c =
    turns_more (gather_one g.F.Field.means 32 c.args.rows.now) _ _ c.loop-row.table _ c.loop-row.invariant
    (ap (λ a. a.table) c.absorb.ensures.exact)
