-- By the letter that is accepted for the line, and, where its data were read by an old map, by the one delivery that turned the client to it.
use Rattle.law_jobs.specs.Runs.{run_of}
use Rattle.law_answers.proofs.ReadsLookOnce.{its_look}
use Rattle.law_answers.proofs.looks.each_read_looks_once.Goals as goal

pub returns : goal.returns
returns c script records sound rise legal answer number bytes given = its_look (run_of script sound records legal) rise answer number bytes given
