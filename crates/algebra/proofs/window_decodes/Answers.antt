use Rattle.algebra.proofs.Windows.{window_decodes_lem}
use Rattle.algebra.proofs.window_decodes.Goals as goal

pub returns : goal.returns
returns c = window_decodes_lem
