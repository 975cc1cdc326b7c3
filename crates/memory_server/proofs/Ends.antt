-- However a job's step is called, it leaves the same.
use Rattle.std.proofs.Common.{◌≡◌, Bool, true, false, refl, ap}
use Rattle.spec_rules.specs.declared.step.Step.TheVariants.{Boot, Work}
use Rattle.spec_rules.specs.declared.step.WorkEnd.{WorkEnd}
use Rattle.spec_rules.specs.declared.step.WorkEnd.TheVariants.{Done, Fault}
use Rattle.server_host.specs.Desks.{IsFault, Site, acted_at, as_end, boot_end, end_in, job_ended}
use Rattle.server_host.specs.declared.step_end.StepEnd.{StepEnd}
use Rattle.server_host.specs.declared.step_end.StepEnd.TheVariants as step_end
use Rattle.memory_server.specs.Ends.{job_end}
use Rattle.memory_server.specs.Server.{left_at, whole_after}

pub job_left : (old : Site) (end : WorkEnd) (stopped : Bool)
    → left_at (whole_after old (Work end)) ≡ left_at (whole_after old (job_ended (job_end end stopped)))
job_left old Done stopped = refl
job_left old (Fault commit) true = refl
job_left old (Fault commit) false = refl

pub job_sends : (old : Site) (end : WorkEnd) (stopped : Bool) → (acted_at old (Work end)).letters ≡ (acted_at old (job_ended (job_end end stopped))).letters
job_sends old Done stopped = refl
job_sends old (Fault commit) true = refl
job_sends old (Fault commit) false = refl

pub job_told : (end : StepEnd) → end ≡ end_in (job_ended end)
job_told step_end.Done = refl
job_told (step_end.Fault commit) = refl
job_told (step_end.StopIn commit) = refl

pub job_fault : (end : WorkEnd) (stopped : Bool) → IsFault (job_end end stopped) → IsFault (as_end end)
job_fault Done stopped fault = fault
job_fault (Fault commit) stopped fault = tt

pub boot_left : (end : WorkEnd) → end ≡ boot_end (as_end end)
boot_left Done = refl
boot_left (Fault commit) = refl

pub boot_told : (end : WorkEnd) → as_end end ≡ end_in (Boot (boot_end (as_end end)))
boot_told end = ap as_end (boot_left end)
