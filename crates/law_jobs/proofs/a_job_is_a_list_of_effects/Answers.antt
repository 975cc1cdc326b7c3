-- By the rule of the job.
use Rattle.law_jobs.proofs.Imports.{Handled, own_place}
use Rattle.law_jobs.proofs.JobsAreEffects.{effects_of}
use Rattle.law_jobs.proofs.a_job_is_a_list_of_effects.Goals as goal

pub returns : goal.returns
returns c setting w n done did = effects_of (Handled w n) (own_place setting w n) (w.servers n).own done did
