-- By induction on the history.
use Rattle.law_answers.proofs.Imports.{run_of}
use Rattle.law_answers.proofs.SettlesAreAnswered.{settled_by}
use Rattle.law_answers.proofs.causes.a_settle_is_answered_by_its_glances.Goals as goal

pub returns : goal.returns
returns c script records sound legal = settled_by (run_of script sound records legal)
