-- What was found of the records in order is so of the lists.
use Rattle.std.proofs.Common.{◌≡◌, Err, ap, subst}
use Rattle.history_merge.specs.Order.{all_of}
use Rattle.history_merge.specs.Recorded.{AreRecorded, IsMismatch}
use Rattle.history_merge.specs.declared.error.MergeError.TheVariants as error
use Rattle.history_merge.proofs.Mismatching.{mismatch_by, never_both, recorded_by}
use Rattle.history_merge.proofs.merging.merge.Goals as goal

pub returns-in-Ok-check_all-clause-sent : goal.returns-in-Ok-check_all-clause-sent
returns-in-Ok-check_all-clause-sent c =
    let sent : AreRecorded c.in-Ok.history.records = subst AreRecorded c.as_slice.ensures c.in-Ok-check_all.ensures.ok in
    recorded_by (all_of c.args.lists.now) c.in-Ok.history.records c.in-Ok.ensures.all c.in-Ok.ensures.recorded sent

pub returns-in-Err-clause-mismatch : goal.returns-in-Err-clause-mismatch
returns-in-Err-clause-mismatch c one other is =
    let same : c.in-Err.error ≡ error.Mismatch one other = cc in
    let found : IsMismatch c.in-Ok.history.records one other =
    subst (λ records. IsMismatch records one other) c.as_slice.ensures (c.in-Err.ensures.mismatch one other (ap Err same)) in
    mismatch_by (all_of c.args.lists.now) c.in-Ok.history.records one other c.in-Ok.ensures.all c.in-Ok.ensures.recorded found

pub returns-in-Err-clause-exactly : goal.returns-in-Err-clause-exactly
returns-in-Err-clause-exactly c one other is sent =
    never_both (all_of c.args.lists.now) one other (returns-in-Err-clause-mismatch c one other is) sent
