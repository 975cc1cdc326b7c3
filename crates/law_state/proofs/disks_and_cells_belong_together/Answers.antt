-- Of each plain state.
use Rattle.law_state.proofs.Disks.{log_disks}
use Rattle.law_state.proofs.disks_and_cells_belong_together.Goals as goal

pub returns : goal.returns
returns c = log_disks
