use Rattle.write_pair.proofs.Moves.{flags_done}
use Rattle.std.proofs.lemmas.Result.{err_from_is_err_and}
use Rattle.write_pair.proofs.Refused.{commit_refused}
use Rattle.write_pair.proofs.lead.stages.flags.Goals as goal

pub returns-clause-job : goal.returns-clause-job
returns-clause-job g c =
    let h = rw (← c.side.view_is) at c.requires.tickets in
    let m = rw (← c.side.view_is) at c.requires.moved in
    rw (← c.side.view_is)
    (flags_done c.args.here.now _ c.args.store.now c.args.op.now h m g.D.Disk c.args.kind c.args.is c.set_stage.new.self c.set_mark.new.store _ _
    c.follow_up.result (rw c.with_flag.ensures at c.set_stage.ensures.table) c.in_ok-set_mark.ensures c.follow_up.ensures)

pub returns-in_err-set_mark-clause-job : goal.returns-in_err-set_mark-clause-job
returns-in_err-set_mark-clause-job g c =
    let error = err_from_is_err_and c.from_residual.result c.from_residual.ensures.1 in
    rw (error.1, error.2)
    (commit_refused g.D.Disk c.args.here.now c.args.side.now c.args.store.now c.set_mark.new.store c.in_err-set_mark.field-0.0 _ c.in_err-set_mark.ensures)
