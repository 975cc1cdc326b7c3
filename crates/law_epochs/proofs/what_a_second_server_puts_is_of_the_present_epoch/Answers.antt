-- By the longest prefix at the place: after it the second server has reported nothing.
use Rattle.law_epochs.proofs.EpochsInHistories.{second_timely}
use Rattle.law_epochs.proofs.what_a_second_server_puts_is_of_the_present_epoch.Goals as goal

pub returns : goal.returns
returns c = second_timely
