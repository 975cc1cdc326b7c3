-- No entry takes a cell back.
use Rattle.law_state.proofs.Steady.{log_grown}
use Rattle.law_state.proofs.stages_only_grow.Goals as goal

pub returns : goal.returns
returns c servers prefix whole cell all is_prefix = (log_grown servers prefix whole all is_prefix).stages cell
