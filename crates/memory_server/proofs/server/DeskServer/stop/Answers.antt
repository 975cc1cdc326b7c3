use Rattle.std.proofs.Common.{ap}
use Rattle.kept_chains.specs.Kept.{store_of}
use Rattle.spec_rules.specs.Jobs.{Acted}
use Rattle.memory_server.proofs.server.DeskServer.stop.Goals as goal

pub returns-clause-letters : goal.returns-clause-letters
returns-clause-letters g c =
    let it = c.self.inside in
    rw (← c.self.view_is) (ap (λ (acted : Acted). acted.letters) (c.stop.ensures.step (store_of it.store) it.state.records))
