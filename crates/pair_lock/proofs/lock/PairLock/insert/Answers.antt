use Rattle.pair_lock.proofs.Pairs.{kept_by_insert}
use Rattle.pair_lock.proofs.lock.PairLock.insert.Goals as goal

pub invariant_of-self : goal.invariant_of-self
invariant_of-self c = rw c.in-Ok.ensures.entries (kept_by_insert _ c.args.pending c.self.invariant)
