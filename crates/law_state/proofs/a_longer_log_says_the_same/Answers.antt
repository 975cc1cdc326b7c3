-- Tables that grow say the same of what they had.
use Rattle.law_state.proofs.Steady.{log_below}
use Rattle.law_state.proofs.a_longer_log_says_the_same.Goals as goal

pub returns : goal.returns
returns c = log_below
