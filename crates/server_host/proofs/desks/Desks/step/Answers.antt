-- The one desk takes its step.
use Rattle.server_host.specs.Desks.{ended}
use Rattle.server_host.proofs.Plans.{desk_of_step, plans_of}
use Rattle.server_host.proofs.desks.Desks.step.Goals as goal

pub returns-clause-step : goal.returns-clause-step
returns-clause-step g c =
    desk_of_step c.self.inside.desks.items c.args.self.now c.args.server (ended c.args.step.now c.in_ok-taken.taken.end) c.args.stamp
    c.index_mut.result.now c.step.new.self c.in_ok-taken.taken.letters c.self.view_is c.requires c.index_mut.ensures.value
    c.in_ok-taken.ensures.desk c.in_ok-taken.ensures.letters

pub returns-clause-plans : goal.returns-clause-plans
returns-clause-plans g c =
    plans_of c.self.inside.desks.items c.args.self.now c.args.server (ended c.args.step.now c.in_ok-taken.taken.end)
    c.index_mut.result.now c.step.new.self c.self.view_is c.requires c.index_mut.ensures.value c.in_ok-taken.ensures.plans
