-- Which part of a server does a job.
use Rattle.std.specs.Prelude.{if◌then◌else◌}
use Rattle.spec_rules.specs.Jobs.{is_log_job}
use Rattle.spec_rules.specs.declared.job.Job.{Job}
use Rattle.spec_rules.specs.declared.job.Job.TheVariants as job
use Rattle.server_jobs.specs.declared.queue.Kind.{Kind}
use Rattle.server_jobs.specs.declared.queue.Kind.TheVariants.{Applies, OfLog, OfPairs}

-- to apply an entry is of the log and of the pairs
abbrev pub kind_of : Job → Kind
kind_of job.Apply = Applies
kind_of job = if is_log_job job then OfLog else OfPairs
