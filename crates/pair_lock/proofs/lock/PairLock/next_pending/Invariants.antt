-- The first of the rows that are left is the first of all.
use Rattle.std.proofs.Common.{◌≡◌}
use Rattle.pair_lock.specs.Pairs.{next_pending}
use Rattle.pair_lock.proofs.lock.PairLock.next_pending.Given as goal

abbrev pub invariant-loop-cell : goal.invariant-loop-cell
invariant-loop-cell l = next_pending l.map l.after l.cell-iterator ≡ next_pending l.map l.after l.self
