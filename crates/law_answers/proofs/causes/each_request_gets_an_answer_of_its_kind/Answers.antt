-- By the cause of each answer.
use Rattle.law_answers.proofs.Imports.{run_of}
use Rattle.law_answers.proofs.AnswersAreCaused.{fits_after}
use Rattle.law_answers.proofs.causes.each_request_gets_an_answer_of_its_kind.Goals as goal

pub returns : goal.returns
returns c script records sound legal = fits_after (run_of script sound records legal)
