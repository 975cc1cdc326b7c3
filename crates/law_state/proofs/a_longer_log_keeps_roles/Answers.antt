-- Both states are steady, and the one is below the other.
use Rattle.law_state.proofs.Roles.{log_roles}
use Rattle.law_state.proofs.a_longer_log_keeps_roles.Goals as goal

pub returns : goal.returns
returns c = log_roles
