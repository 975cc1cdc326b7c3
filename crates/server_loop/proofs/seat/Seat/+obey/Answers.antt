-- A step of the line was given, or its glance came.
use Rattle.std.proofs.lemmas.Result.{on_err_weaker, on_ok_weaker}
use Rattle.petal_world.specs.Errands.{steps_left}
use Rattle.spec_rules.specs.World.{setting_of}
use Rattle.server_loop.proofs.Obedience.{all_given_so, glance_given, none_given, on_err, some_given_so}
use Rattle.server_loop.proofs.seat.Seat.+obey.Goals as goal

pub returns-in_err-give_next-clause-err : goal.returns-in_err-give_next-clause-err
returns-in_err-give_next-clause-err g t c =
    on_err c.from_residual.result (none_given (setting_of g.J.Run.script) c.args.line.now c.args.called (steps_left c.args.left) _ _ c.in_err-give_next.ensures.err)

pub returns-in-None-clause-ok : goal.returns-in-None-clause-ok
returns-in-None-clause-ok g t c =
    let given = c.in_ok-give_next.ensures.ok in
    glance_given (setting_of g.J.Run.script) _ _ _ _ _ c.self.invariant c.self.view_is c.requires.ready _ c.is_running.ensures c.args.line.now c.args.called
    (steps_left c.args.left) _ c.due-left.ensures _ c.first-first.ensures _ given.0 given.1 c.in-None.is

pub returns-in-Some-clause-ok : goal.returns-in-Some-clause-ok
returns-in-Some-clause-ok g t c =
    let given = c.in_ok-give_next.ensures.ok in
    on_ok_weaker c.obey.result
    (all_given_so (setting_of g.J.Run.script) _ _ _ _ _ c.self.invariant c.self.view_is c.requires.ready _ c.is_running.ensures c.args.line.now c.args.called
    (steps_left c.args.left) _ c.due-left.ensures _ c.first-first.ensures _ given.0 given.1 _ c.in-Some.is _ c.rest.ensures _)
    c.obey.ensures.ok

pub returns-in-Some-clause-err : goal.returns-in-Some-clause-err
returns-in-Some-clause-err g t c =
    let given = c.in_ok-give_next.ensures.ok in
    on_err_weaker c.obey.result
    (some_given_so (setting_of g.J.Run.script) _ _ _ _ _ c.self.invariant c.self.view_is c.requires.ready _ c.is_running.ensures c.args.line.now c.args.called
    (steps_left c.args.left) _ c.due-left.ensures _ c.first-first.ensures _ given.0 given.1 _ c.in-Some.is _ c.rest.ensures _)
    c.obey.ensures.err
