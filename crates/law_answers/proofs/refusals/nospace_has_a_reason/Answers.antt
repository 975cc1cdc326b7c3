-- By induction on the records before.
use Rattle.law_answers.proofs.Imports.{more_of}
use Rattle.law_answers.proofs.NoSpaceHasReasons.{no_space_reason}
use Rattle.law_answers.proofs.refusals.nospace_has_a_reason.Goals as goal

pub returns : goal.returns
returns c script prefix own sound legal = no_space_reason (more_of script sound prefix own legal)
