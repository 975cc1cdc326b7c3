-- By the kind of the step.
use Rattle.law_answers.proofs.Imports.{more_of}
use Rattle.law_answers.proofs.RefusalsHaveReasons.{nothing_reason}
use Rattle.law_answers.proofs.refusals.not_here_has_a_reason.Goals as goal

pub returns : goal.returns
returns c script prefix own sound legal letter seq h says = nothing_reason (more_of script sound prefix own legal) letter seq h says
