-- Who runs, and was In as itself, is so by what is chosen, and serves what it served.
use Rattle.law_jobs.specs.Runs.{run_of}
use Rattle.law_answers.proofs.ReadsLookOnce.{its_link}
use Rattle.law_answers.proofs.looks.no_lost_link_is_read.Goals as goal

pub returns : goal.returns
returns c script records sound rise legal answer number bytes given = its_link (run_of script sound records legal) rise answer number bytes given
