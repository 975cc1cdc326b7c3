-- By induction on the records after.
use Rattle.law_answers.proofs.PhasesRise.{answers_join, text_joins}
use Rattle.law_answers.proofs.phases_come_one_after_the_other.Goals as goal

pub returns-clause-answers : goal.returns-clause-answers
returns-clause-answers c = answers_join

pub returns-clause-text : goal.returns-clause-text
returns-clause-text c = text_joins
