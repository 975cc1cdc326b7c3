use Rattle.std.proofs.Common.{◌≡◌, ap, ◌∙◌, arith}
use Rattle.petal_disk.specs.declared.memory_disk.MemDisk.{MemDisk}
use Rattle.petal_disk.specs.Plans.{PlanState, plan_state}
use Rattle.memory_server.proofs.Plans.{none_left}
use Rattle.memory_server.proofs.memory.first_state.Goals as goal
use Rattle.state_store.specs.Device.{device_bytes}

pub format-requires-after_bounds : goal.format-requires-after_bounds
format-requires-after_bounds c =
    let same : c.new-2.result.disk.len ≡ device_bytes = ap (λ (d : MemDisk). d.len) c.new-2.ensures.disk ∙ c.in-Ok.ensures.size in
    omega (arith, same)

pub returns-in-Ok-format-clause-holds : goal.returns-in-Ok-format-clause-holds
returns-in-Ok-format-clause-holds c = c.in-Ok-format.ensures.holds tt

pub returns-in-Ok-format-clause-plan : goal.returns-in-Ok-format-clause-plan
returns-in-Ok-format-clause-plan c =
    none_left (plan_state c.new-2.result) (plan_state c.in-Ok-format.state.disk) c.in-Ok-format.ensures.run.1
    (ap (λ (state : PlanState). state.plan) c.new-2.ensures.state)
