use Rattle.examples.proofs.Meeting.{promises_are_met_lem}
use Rattle.examples.proofs.promises_are_met.Goals as goal

pub returns : goal.returns
returns c = promises_are_met_lem
