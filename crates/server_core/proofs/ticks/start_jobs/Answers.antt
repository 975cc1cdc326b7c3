use Rattle.std.proofs.Common.{[], ◌∙◌}
use Rattle.std.proofs.lemmas.Result.{IfOk-weaker}
use Rattle.server_core.proofs.ticks.start_jobs.Goals as goal

pub returns : goal.returns
returns g c =
    rw (← c.parts.view_is)
    (IfOk-weaker c.job_where.result _ _ (λ queued is. is ∙ (rw (c.as_slice.ensures ∙ c.in_ok-wants.ensures) at c.in_ok-may.ensures) []) c.job_where.ensures)
