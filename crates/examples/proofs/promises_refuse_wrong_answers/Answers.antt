use Rattle.examples.proofs.Refused.{promises_refuse_wrong_answers_lem}
use Rattle.examples.proofs.promises_refuse_wrong_answers.Goals as goal

pub returns : goal.returns
returns c = promises_refuse_wrong_answers_lem
