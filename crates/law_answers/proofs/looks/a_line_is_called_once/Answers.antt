-- A call takes the client's next number, and numbers only rise.
use Rattle.law_answers.proofs.LinesCalledOnce.{called_once}
use Rattle.law_answers.proofs.looks.a_line_is_called_once.Goals as goal

pub returns : goal.returns
returns c script records rise legal one other number first again = called_once script rise records legal one other number first again
