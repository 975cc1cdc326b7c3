-- By induction on the history.
use Rattle.law_run.proofs.Imports.{run_of}
use Rattle.law_run.proofs.HistoriesAreRuns.{held_after}
use Rattle.law_run.proofs.contents_are_the_machines.Goals as goal

pub returns : goal.returns
returns c script records sound legal = held_after (run_of script sound records legal)
