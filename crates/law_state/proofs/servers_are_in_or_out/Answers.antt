-- Of each plain state.
use Rattle.law_state.proofs.Disks.{log_in}
use Rattle.law_state.proofs.servers_are_in_or_out.Goals as goal

pub returns : goal.returns
returns c = log_in
