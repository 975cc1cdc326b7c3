-- A disk in memory tells its bytes and never fails, so that each fault is by a plan.
use Rattle.std.proofs.lemmas.Result.{IfOk-weaker}
use Rattle.memory_server.proofs.Plans.{uses_none}
use Rattle.memory_server.proofs.memory.MemServerHost.step.Goals as goal

pub returns-in-Blank-clause-plans : goal.returns-in-Blank-clause-plans
returns-in-Blank-clause-plans c =
    rw c.in-Blank.is (IfOk-weaker c.blank.result _ _ (λ taken rest. uses_none (λ armed left same. same) rest) c.blank.ensures.plans)
