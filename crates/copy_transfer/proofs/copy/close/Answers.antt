use Rattle.std.proofs.Common.{[], Option, ap, ◌∙◌}
use Rattle.pair_memory.specs.declared.job_result.JobResult.{JobResult}
use Rattle.pair_memory.specs.declared.job_result.FollowUp.{FollowUp}
use Rattle.copy_transfer.proofs.Stages.{closed_is}
use Rattle.copy_transfer.proofs.copy.close.Goals as goal

abbrev left : Option FollowUp → JobResult
left follow = record { letters = []; follow = follow }

pub returns : goal.returns
returns g c =
    let h = rw (← c.side.view_is) at c.requires.tickets in
    rw (← c.side.view_is)
    (closed_is c.args.here.now _ c.args.store.now h c.args.cell c.args.copy c.set_copied.new.noted c.end_copying.new.self
    c.set_full.new.self c.followed.result
    c.in_ok-set_copied.ensures.ok c.end_copying.ensures c.set_full.ensures
    (c.followed.ensures ∙ ap left c.repair_after.ensures))
