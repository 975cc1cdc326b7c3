-- By induction on the log.
use Rattle.law_state.proofs.BlankJoins.{counts_joins, joined_counts, joins_grow}
use Rattle.law_state.proofs.blank_joins_only_grow.Goals as goal

-- an entry counts once or not at all
pub returns-clause-grows : goal.returns-clause-grows
returns-clause-grows c = joins_grow

-- by what the entry is
pub returns-clause-entry : goal.returns-clause-entry
returns-clause-entry c = counts_joins

-- such a Join is one of the entries that the longer log has more
pub returns-clause-counts : goal.returns-clause-counts
returns-clause-counts c = joined_counts
