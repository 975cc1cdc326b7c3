-- The step that sent the letter is one of a server that had another revision.
use Rattle.law_answers.proofs.Imports.{run_of}
use Rattle.law_answers.proofs.Revisions.{reason_after}
use Rattle.law_answers.proofs.causes.wrong_rev_has_a_reason.Goals as goal

pub returns : goal.returns
returns c script records sound legal letter seq h e = reason_after (run_of script sound records legal) letter seq h e
