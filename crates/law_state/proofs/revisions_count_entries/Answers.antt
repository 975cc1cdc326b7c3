-- By induction on the log.
use Rattle.law_state.proofs.Steady.{log_rev}
use Rattle.law_state.proofs.revisions_count_entries.Goals as goal

pub returns : goal.returns
returns c = log_rev
