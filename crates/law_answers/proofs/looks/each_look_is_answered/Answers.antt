-- By the record that accepts the letter which tells the look, or the data that were found for it.
use Rattle.law_jobs.specs.Runs.{run_of}
use Rattle.law_answers.proofs.LooksAnswered.{look_answered}
use Rattle.law_answers.proofs.looks.each_look_is_answered.Goals as goal

pub returns : goal.returns
returns c script records sound rise legal moment look told = look_answered (run_of script sound records legal) rise moment look told
