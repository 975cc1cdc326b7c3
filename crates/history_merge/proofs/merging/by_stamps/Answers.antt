-- What stands of records in order.
use Rattle.history_merge.proofs.KeptLists.{own_kept, recorded_kept}
use Rattle.history_merge.proofs.merging.by_stamps.Goals as goal

pub returns-clause-all : goal.returns-clause-all
returns-clause-all c = c.in_ok-records.ensures.shuffled

pub returns-clause-order : goal.returns-clause-order
returns-clause-order c = c.in_ok-records.ensures.sorted

pub returns-clause-own : goal.returns-clause-own
returns-clause-own c = λ script own. own_kept _ _ c.in_ok-records.ensures.sorted c.in_ok-records.ensures.stable script own

pub returns-clause-recorded : goal.returns-clause-recorded
returns-clause-recorded c = λ letter. recorded_kept _ _ c.in_ok-records.ensures.sorted c.in_ok-records.ensures.stable letter
