-- By what is kept of each legal history.
use Rattle.law_log.proofs.LogInHistories.{history_agrees, history_is_firm}
use Rattle.law_log.proofs.every_history_agrees.Goals as goal

pub returns-clause-agrees : goal.returns-clause-agrees
returns-clause-agrees c = history_agrees

pub returns-clause-firm : goal.returns-clause-firm
returns-clause-firm c = history_is_firm
