-- A ballot for a Moved starts in a step of a server that has nothing left to move.
use Rattle.law_log.proofs.LogInHistories.{moved_was_wanted}
use Rattle.law_log.proofs.a_chosen_moved_was_wanted.Goals as goal

pub returns : goal.returns
returns c = moved_was_wanted
