-- The next entry is applied to the log, the pairs and the store.
use Rattle.std.proofs.Common.{◌≡◌, sym, subst}
use Rattle.std.specs.Prelude.{IfSome}
use Rattle.server_log.specs.Part.{state_of}
use Rattle.spec_rules.specs.State.{State}
use Rattle.spec_state.specs.Command.{after}
use Rattle.server_core.proofs.Entering.{entered_not, entered_with, state_entered}
use Rattle.server_core.proofs.entry.enter_next.Goals as goal

pub enter_by-requires-clause-next : goal.enter_by-requires-clause-next
enter_by-requires-clause-next g c = λ _ _.
    let done = c.in_ok-done.ensures in
    subst (λ (s : State). IfSome c.in_ok-done.entered (λ it. s ≡ after it.before it.entry)) (sym c.state.ensures)
    (state_entered c.args.log.now c.apply.new.self c.args.state.now.records c.in_ok-done.done c.in_ok-done.entered done.done
    done.voter done.entry done.before)

pub returns-in-Ok-clause-entered : goal.returns-in-Ok-clause-entered
returns-in-Ok-clause-entered g c = λ _.
    let done = c.in_ok-done.ensures in
    entered_with g.D.Disk tt c.in_ok-done.done
    (rw (c.number-me.ensures, c.inc-inc.ensures, done.entry) at (c.in-Ok.ensures (state_of c.args.log.now) done.before))

pub returns-in-Err-clause-entered : goal.returns-in-Err-clause-entered
returns-in-Err-clause-entered g c = λ _.
    let done = c.in_ok-done.ensures in
    entered_not g.D.Disk c.in-Err.error
    (rw (c.number-me.ensures, c.inc-inc.ensures, done.entry) at (c.in-Err.ensures (state_of c.args.log.now) done.before))

pub returns-in-Err-clause-same : goal.returns-in-Err-clause-same
returns-in-Err-clause-same g c = λ is.
    let failed = (c.in-Err.ensures (state_of c.args.log.now) c.in_ok-done.ensures.before).errors in absurd (cc)
