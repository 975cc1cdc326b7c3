-- The first job, whose step is called by what the devices tell.
use Rattle.std.proofs.Common.{sym, ◌∙◌}
use Rattle.memory_server.proofs.Ends.{job_fault, job_left, job_sends, job_told}
use Rattle.memory_server.proofs.Plans.{flags_apart, job_plans}
use Rattle.memory_server.specs.Server.{whole_of}
use Rattle.memory_server.proofs.server.DeskServer.work.Goals as goal

pub returns-clause-site : goal.returns-clause-site
returns-clause-site g c =
    rw c.job_taken.ensures
    (λ observed. c.in_ok-attempt.ensures.site observed ∙ job_left (whole_of c.args.self.now) c.in_ok-attempt.attempt.end _)

pub returns-clause-letters : goal.returns-clause-letters
returns-clause-letters g c =
    rw c.job_taken.ensures
    (λ observed. c.in_ok-attempt.ensures.letters observed ∙ job_sends (whole_of c.args.self.now) c.in_ok-attempt.attempt.end _)

pub returns-clause-end : goal.returns-clause-end
returns-clause-end g c = job_told c.job_taken.result.end

pub returns-clause-cause : goal.returns-clause-cause
returns-clause-cause g c = rw c.job_taken.ensures (λ fault. c.in_ok-attempt.ensures.cause (job_fault c.in_ok-attempt.attempt.end _ fault))

pub returns-clause-plans : goal.returns-clause-plans
returns-clause-plans g c =
    let worked = c.in_ok-attempt.ensures in
    rw c.job_taken.ensures
    (job_plans c.args.self.now c.first_job.new.self worked.run g.E.Disk.faults c.in_ok-attempt.attempt.end _ worked.cause
    (λ on same. flags_apart c.stops.result c.stops-before.result (sym c.ne-stopped.ensures ∙ on) (c.stops.ensures ∙ same ∙ sym c.stops-before.ensures)))
