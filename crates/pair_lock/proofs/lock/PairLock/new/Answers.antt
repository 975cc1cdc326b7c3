use Rattle.pair_lock.proofs.Pairs.{kept_by_none}
use Rattle.pair_lock.proofs.lock.PairLock.new.Goals as goal

pub invariant_of-result : goal.invariant_of-result
invariant_of-result c = rw c.new.ensures.empty kept_by_none
