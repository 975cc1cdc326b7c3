-- By what has been reported before the era rises.
use Rattle.law_epochs.proofs.EpochsInHistories.{pending_timely}
use Rattle.law_epochs.proofs.a_pending_write_is_of_the_present_epoch.Goals as goal

pub returns : goal.returns
returns c = pending_timely
