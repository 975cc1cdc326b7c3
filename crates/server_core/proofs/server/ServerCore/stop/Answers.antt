use Rattle.std.proofs.Common.{ap, ◌∙◌}
use Rattle.server_core.specs.ServerView.{ServerView, acted}
use Rattle.server_core.proofs.Stops.{stopped_with}
use Rattle.server_core.proofs.server.ServerCore.stop.Goals as goal

pub returns-clause-step : goal.returns-clause-step
returns-clause-step c = λ store records.
    let core = c.self.inside.parts in
    rw (← c.self.view_is)
    (ap (λ (it : ServerView). acted it store records c.replace.result) c.halt.ensures
    ∙ stopped_with core store records c.replace.result (c.replace.ensures.value ∙ c.self.invariant (rw (← c.self.view_is) at c.requires)))
