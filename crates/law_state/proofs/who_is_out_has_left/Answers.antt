-- The entry that made it Out is its Leave.
use Rattle.law_state.proofs.Disks.{first_at_start, who_is_out}
use Rattle.law_state.proofs.who_is_out_has_left.Goals as goal

pub returns-clause-left : goal.returns-clause-left
returns-clause-left c = who_is_out

pub returns-clause-starts : goal.returns-clause-starts
returns-clause-starts c = first_at_start
