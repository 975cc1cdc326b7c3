-- A report would have been made before the visit of the place, or at it.
use Rattle.law_epochs.proofs.EpochsInHistories.{place_timely}
use Rattle.law_epochs.proofs.a_write_of_a_place_is_of_its_epoch.Goals as goal

pub returns : goal.returns
returns c = place_timely
