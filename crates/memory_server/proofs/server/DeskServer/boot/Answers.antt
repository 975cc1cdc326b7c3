-- A boot, whose step is called by what the devices tell.
use Rattle.std.proofs.Common.{ap, ◌∙◌}
use Rattle.spec_rules.specs.declared.step.Step.TheVariants.{Boot}
use Rattle.server_host.specs.Desks.{acted_at}
use Rattle.memory_server.proofs.Ends.{boot_left, boot_told}
use Rattle.memory_server.proofs.Plans.{boot_plans}
use Rattle.memory_server.specs.Server.{left_at, whole_after, whole_of}
use Rattle.memory_server.proofs.server.DeskServer.boot.Goals as goal

pub returns-clause-site : goal.returns-clause-site
returns-clause-site g c =
    rw c.boot_taken.ensures
    (λ observed. c.in_ok-attempt.ensures.site observed
    ∙ ap (λ e. left_at (whole_after (whole_of c.args.self.now) (Boot e))) (boot_left c.in_ok-attempt.attempt.end))

pub returns-clause-letters : goal.returns-clause-letters
returns-clause-letters g c =
    rw c.boot_taken.ensures
    (λ observed. c.in_ok-attempt.ensures.letters observed
    ∙ ap (λ e. (acted_at (whole_of c.args.self.now) (Boot e)).letters) (boot_left c.in_ok-attempt.attempt.end))

pub returns-clause-end : goal.returns-clause-end
returns-clause-end g c = rw c.boot_taken.ensures (boot_told c.in_ok-attempt.attempt.end)

pub returns-clause-plans : goal.returns-clause-plans
returns-clause-plans g c =
    let booted = c.in_ok-attempt.ensures in
    rw c.boot_taken.ensures
    (boot_plans c.args.self.now c.boot_up.new.self booted.run g.E.Disk.faults c.in_ok-attempt.attempt.end booted.cause)
