-- The schedule that is kept.
use Rattle.law_log.proofs.LogInHistories.{history_has_schedule}
use Rattle.law_log.proofs.every_history_has_a_schedule.Goals as goal

pub returns : goal.returns
returns c = history_has_schedule
