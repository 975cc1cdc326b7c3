use Rattle.std.proofs.Common.{ap, ◌∙◌}
use Rattle.petal_disk.specs.declared.memory_disk.MemDisk.{MemDisk}
use Rattle.petal_disk.specs.Plans.{PlanState, plan_state}
use Rattle.memory_server.proofs.Plans.{none_left}
use Rattle.memory_server.proofs.memory.first_store.Goals as goal

pub returns-in-Ok-clause-holds : goal.returns-in-Ok-clause-holds
returns-in-Ok-clause-holds c = c.in-Ok.ensures.holds tt

pub returns-in-Ok-clause-size : goal.returns-in-Ok-clause-size
returns-in-Ok-clause-size c = c.in-Ok.ensures.size ∙ ap (λ (d : MemDisk). d.len) c.new-2.ensures.disk ∙ c.in_ok-disk.ensures

pub returns-in-Ok-clause-plan : goal.returns-in-Ok-clause-plan
returns-in-Ok-clause-plan c =
    none_left (plan_state c.new-2.result) (plan_state c.in-Ok.store.disk) c.in-Ok.ensures.run.1
    (ap (λ (state : PlanState). state.plan) c.new-2.ensures.state)
