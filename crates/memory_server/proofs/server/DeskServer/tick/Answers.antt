use Rattle.std.proofs.Common.{ap, ◌∙◌}
use Rattle.memory_server.proofs.Plans.{both_later}
use Rattle.memory_server.specs.Server.{whole_after}
use Rattle.spec_rules.specs.declared.step.Step.TheVariants.{Tick}
use Rattle.server_host.specs.Desks.{Site, acted_at}
use Rattle.memory_server.proofs.server.DeskServer.tick.Goals as goal

pub returns-in-Ok-tick_once-clause-site : goal.returns-in-Ok-tick_once-clause-site
returns-in-Ok-tick_once-clause-site g c = λ observed.
    c.in-Ok-tick_once.ensures.site observed ∙ ap (λ (site : Site). whole_after site Tick) c.in-Err-Failed.ensures.err

pub returns-in-Ok-tick_once-clause-letters : goal.returns-in-Ok-tick_once-clause-letters
returns-in-Ok-tick_once-clause-letters g c = λ observed.
    c.in-Ok-tick_once.ensures.letters observed ∙ ap (λ (site : Site). (acted_at site Tick).letters) c.in-Err-Failed.ensures.err

pub returns-in-Ok-tick_once-clause-run : goal.returns-in-Ok-tick_once-clause-run
returns-in-Ok-tick_once-clause-run g c = both_later c.args.self.now _ _ c.in-Err-Failed.ensures.run c.in-Ok-tick_once.ensures.run
