-- By the kind of the step.
use Rattle.law_answers.proofs.Imports.{more_of}
use Rattle.law_answers.proofs.RefusalsHaveReasons.{fill_reason}
use Rattle.law_answers.proofs.refusals.a_full_fill_found_no_slot.Goals as goal

pub returns : goal.returns
returns c script prefix own sound legal letter key h says = fill_reason (more_of script sound prefix own legal) letter key h says
