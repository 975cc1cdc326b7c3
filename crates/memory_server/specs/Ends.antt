-- How a job's step ends.
use Rattle.std.specs.Prelude.{Bool, true, false}
use Rattle.spec_rules.specs.declared.step.WorkEnd.{WorkEnd}
use Rattle.spec_rules.specs.declared.step.WorkEnd.TheVariants.{Done, Fault}
use Rattle.server_host.specs.declared.step_end.StepEnd.{StepEnd}
use Rattle.server_host.specs.declared.step_end.StepEnd.TheVariants as step_end

-- a job in which a device failed is a stop where a plan that stops the server was met
abbrev pub job_end : WorkEnd → (stopped : Bool) → StepEnd
job_end Done stopped = step_end.Done
job_end (Fault commit) true = step_end.StopIn commit
job_end (Fault commit) false = step_end.Fault commit
