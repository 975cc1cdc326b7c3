-- By the kind of the step.
use Rattle.law_answers.proofs.Imports.{more_of}
use Rattle.law_answers.proofs.RefusalsHaveReasons.{busy_reason}
use Rattle.law_answers.proofs.refusals.a_busy_block_has_another_operation.Goals as goal

pub returns : goal.returns
returns c script prefix own sound legal letter seq h says = busy_reason (more_of script sound prefix own legal) letter seq h says
