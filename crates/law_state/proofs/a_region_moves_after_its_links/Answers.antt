-- Entry by entry: a link that is noted is new in one state alone, after its Moved.
use Rattle.law_state.proofs.LinksAreNoted.{log_retired, log_noted, log_twins}
use Rattle.law_state.proofs.a_region_moves_after_its_links.Goals as goal

-- a cell that leaves had no link noted when it began to
pub returns-clause-noted : goal.returns-clause-noted
returns-clause-noted c = log_noted

-- it dies at the entry by which the last link is noted
pub returns-clause-retired : goal.returns-clause-retired
returns-clause-retired c = log_retired

-- the stages of the two cells change together
pub returns-clause-twins : goal.returns-clause-twins
returns-clause-twins c = log_twins
