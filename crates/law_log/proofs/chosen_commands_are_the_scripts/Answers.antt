-- By the schedule, whose ballots start for such commands alone.
use Rattle.law_log.proofs.LogInHistories.{chosen_caught, chosen_is_called_for}
use Rattle.law_log.proofs.chosen_commands_are_the_scripts.Goals as goal

pub returns-clause-called : goal.returns-clause-called
returns-clause-called c script records command sound legal i = chosen_is_called_for script records sound legal command i

pub returns-clause-caught : goal.returns-clause-caught
returns-clause-caught c = chosen_caught
