-- By induction on the history, in view of the log at its end.
use Rattle.law_answers.proofs.Imports.{run_of}
use Rattle.law_answers.proofs.AnswersAreCaused.{causes_after}
use Rattle.law_answers.proofs.causes.answers_are_caused.Goals as goal

pub returns : goal.returns
returns c script records sound rise legal = causes_after (run_of script sound records legal) rise
