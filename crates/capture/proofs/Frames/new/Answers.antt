use Rattle.std.proofs.Common.{ap, ◌∙◌, rules}
use Rattle.capture.specs.Frames.{captured}
use Rattle.capture.proofs.Steps.{come_back}
use Rattle.capture.proofs.Frames.new.Goals as goal

pub returns-clause-come_back : goal.returns-clause-come_back
returns-clause-come_back c fs e = let back = ap captured e ∙ come_back fs in search rules
