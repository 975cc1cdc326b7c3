-- By induction on the history.
use Rattle.law_run.proofs.Imports.{run_of}
use Rattle.law_run.proofs.HistoriesAreRuns.{run_after}
use Rattle.law_run.proofs.events_are_a_run.Goals as goal

pub returns : goal.returns
returns c script records sound legal = run_after (run_of script sound records legal)
