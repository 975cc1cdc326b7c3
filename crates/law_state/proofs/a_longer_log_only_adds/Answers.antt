-- By induction on what the whole has more.
use Rattle.law_state.proofs.Steady.{log_grown}
use Rattle.law_state.proofs.a_longer_log_only_adds.Goals as goal

pub returns : goal.returns
returns c = log_grown
