-- The first of the rows that are left is the first of all.
use Rattle.std.proofs.Common.{◌≡◌}
use Rattle.pair_lock.specs.Pairs.{first_write_in}
use Rattle.pair_lock.proofs.lock.PairLock.first_write_in.Given as goal

abbrev pub invariant-loop-cell : goal.invariant-loop-cell
invariant-loop-cell l = first_write_in l.scope l.cell-iterator ≡ first_write_in l.scope l.self
