-- Each part by its own law.
use Rattle.law_run.proofs.HistoriesAreRuns.{law}
use Rattle.law_run.proofs.every_history_keeps_the_law.Goals as goal

pub returns : goal.returns
returns c = law
