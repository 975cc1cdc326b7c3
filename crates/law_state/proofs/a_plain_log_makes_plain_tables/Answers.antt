-- By induction on the log.
use Rattle.law_state.proofs.EntriesOnlyAdd.{log_plain}
use Rattle.law_state.proofs.a_plain_log_makes_plain_tables.Goals as goal

pub returns : goal.returns
returns c = log_plain
