-- By the kind of the step.
use Rattle.law_answers.proofs.Imports.{more_of}
use Rattle.law_answers.proofs.RefusalsHaveReasons.{held_reason}
use Rattle.law_answers.proofs.refusals.a_held_request_has_a_reason.Goals as goal

pub returns : goal.returns
returns c script prefix own sound legal letter seq h says = held_reason (more_of script sound prefix own legal) letter seq h says
