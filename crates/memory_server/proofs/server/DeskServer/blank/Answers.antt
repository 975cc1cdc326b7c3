-- What is left of a stopped server that gets a blank device.
use Rattle.std.proofs.Common.{Bool, ap}
use Rattle.std.specs.Prelude.{not}
use Rattle.spec_rules.specs.declared.step.Step.TheVariants.{Blank}
use Rattle.server_host.specs.Desks.{Site}
use Rattle.memory_server.proofs.Seen.{seen_after}
use Rattle.memory_server.specs.Server.{left_at, whole_of}
use Rattle.memory_server.proofs.server.DeskServer.blank.Goals as goal

pub returns-clause-site : goal.returns-clause-site
returns-clause-site g c =
    let taken = c.in_ok-take_blank.ensures in
    seen_after (whole_of c.args.self.now) Blank (ap (λ (running : Bool). not running) taken.stopped) (whole_of c.take_blank.new.self)
    (ap (λ (site : Site). left_at site) taken.site)
