-- The server is In by all that is chosen.
use Rattle.law_epochs.proofs.EpochsInHistories.{running_timely}
use Rattle.law_epochs.proofs.nothing_is_written_under_an_old_map.Goals as goal

pub returns : goal.returns
returns c = running_timely
