use Rattle.std.proofs.Common.{◌≡◌, ◌++◌, map, take, drop}
use Rattle.field.specs.Field.{times}
use Rattle.elimination.proofs.row.scale_codes.Given as goal

abbrev pub invariant-loop-code : goal.invariant-loop-code
invariant-loop-code g l = l.codes ≡ map (times g.F.Field.means l.factor) (take l.code-index l.initial.codes) ++ drop l.code-index l.initial.codes
