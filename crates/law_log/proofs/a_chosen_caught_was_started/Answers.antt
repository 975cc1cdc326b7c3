-- A ballot for a Caught starts in a step that leaves it in mind.
use Rattle.law_log.proofs.LogInHistories.{chosen_caught_was}
use Rattle.law_log.proofs.a_chosen_caught_was_started.Goals as goal

pub returns : goal.returns
returns c = chosen_caught_was
