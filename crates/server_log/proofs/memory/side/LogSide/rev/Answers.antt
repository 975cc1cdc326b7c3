use Rattle.std.proofs.Common.{ap, ◌∙◌}
use Rattle.spec_state.specs.State.{State}
use Rattle.server_log.proofs.States.{rev_counts}
use Rattle.server_log.proofs.memory.side.LogSide.rev.Goals as goal

pub returns-clause-entries : goal.returns-clause-entries
returns-clause-entries c =
    rw (← c.self.view_is) (c.rev.ensures.value ∙ ap (λ (s : State). s.rev) c.self.invariant ∙ rev_counts c.self.inside.proposer.servers c.self.inside.applied)
