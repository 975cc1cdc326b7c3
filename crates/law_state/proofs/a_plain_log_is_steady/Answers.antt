-- Of each plain state.
use Rattle.law_state.proofs.Steady.{log_steady}
use Rattle.law_state.proofs.a_plain_log_is_steady.Goals as goal

pub returns : goal.returns
returns c = log_steady
