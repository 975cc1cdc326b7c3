use Rattle.pair_lock.proofs.Pairs.{own_cell}
use Rattle.pair_lock.proofs.lock.PairLock.get.Goals as goal

pub returns-clause-own : goal.returns-clause-own
returns-clause-own c = rw (← c.self.view_is) (own_cell _ c.args.cell c.self.invariant)
