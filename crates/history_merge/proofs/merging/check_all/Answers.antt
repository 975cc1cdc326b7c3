-- The first letter that is not as sent is told.
use Rattle.std.proofs.Common.{arith}
use Rattle.history_merge.proofs.Mismatching.{all_recorded, mismatch_at}
use Rattle.history_merge.proofs.merging.check_all.Goals as goal

pub returns-in-Err-clause-mismatch : goal.returns-in-Err-clause-mismatch
returns-in-Err-clause-mismatch c one other is =
    mismatch_at c.args.records.now c.loop-own.own-index c.own-item.result one other c.loop-own-test.true c.own-item.is (c.in-Err.ensures.mismatch one other is)

pub returns-clause-ok : goal.returns-clause-ok
returns-clause-ok c =
    let end = c.loop-own-test.false in
    all_recorded c.args.records.now (λ k d less. c.loop-own.invariant k d (omega arith) (omega arith))
