-- By the rule of the job.
use Rattle.law_jobs.proofs.Imports.{Handled, own_place}
use Rattle.law_jobs.proofs.JobsSay.{letters_of_job}
use Rattle.law_jobs.proofs.a_job_says_what_it_may.Goals as goal

pub returns : goal.returns
returns c setting w n done did post i = letters_of_job (Handled w n) (own_place setting w n) (w.servers n).own done did post i
