-- A ballot for a Join starts in a step of its server, after entries by which it may join.
use Rattle.law_log.proofs.LogInHistories.{chosen_join_acts, join_was_wanted}
use Rattle.law_log.proofs.a_chosen_join_was_wanted.Goals as goal

pub returns-clause-wanted : goal.returns-clause-wanted
returns-clause-wanted c = join_was_wanted

pub returns-clause-acts : goal.returns-clause-acts
returns-clause-acts c = chosen_join_acts
