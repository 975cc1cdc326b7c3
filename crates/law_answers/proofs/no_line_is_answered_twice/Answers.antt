-- By induction on the records before.
use Rattle.law_answers.proofs.AnsweredOnce.{once}
use Rattle.law_answers.proofs.no_line_is_answered_twice.Goals as goal

pub returns : goal.returns
returns c = once
