-- Each step keeps the votes.
use Rattle.law_log.proofs.LogInHistories.{history_grows}
use Rattle.law_log.proofs.the_chosen_log_grows.Goals as goal

pub returns : goal.returns
returns c = history_grows
