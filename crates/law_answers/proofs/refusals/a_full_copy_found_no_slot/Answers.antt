-- By induction on the records.
use Rattle.law_answers.proofs.Imports.{run_of}
use Rattle.law_answers.proofs.NoSlotWasReported.{found_none}
use Rattle.law_answers.proofs.refusals.a_full_copy_found_no_slot.Goals as goal

pub returns : goal.returns
returns c script records sound legal = found_none (run_of script sound records legal)
