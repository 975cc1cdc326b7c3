-- Entry by entry.
use Rattle.law_state.proofs.EntriesTouchLinks.{log_entry_stays, log_touched, places_grow, same_place}
use Rattle.law_state.proofs.an_entry_that_does_not_touch_a_link.Goals as goal

-- kind by kind; a Moved may end the cell
pub returns-clause-stays : goal.returns-clause-stays
returns-clause-stays c = log_entry_stays

-- a Leave, a Join and a Caught are all that touch a link
pub returns-clause-touched : goal.returns-clause-touched
returns-clause-touched c = log_touched

-- no entry takes a place away
pub returns-clause-grows : goal.returns-clause-grows
returns-clause-grows c = places_grow

-- where no place was added no entry on the way touched the link
pub returns-clause-place : goal.returns-clause-place
returns-clause-place c = same_place
