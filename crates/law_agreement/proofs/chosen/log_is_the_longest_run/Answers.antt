use Rattle.law_agreement.proofs.ChosenLogGrows.{log_tells, log_ends, log_has, prefix_of_log}
use Rattle.law_agreement.proofs.chosen.log_is_the_longest_run.Goals as goal

pub returns : goal.returns
returns c = record { tells = log_tells; ends = log_ends; has = log_has; prefix = prefix_of_log }
