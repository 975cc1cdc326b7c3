-- Entry by entry: the active fence awaits the server, or does not hold the cell's writes.
use Rattle.law_state.proofs.ErasRiseAfterReports.{log_epochs, log_left, log_unheld}
use Rattle.law_state.proofs.an_epoch_rises_after_reports.Goals as goal

-- stages and epochs only rise
pub returns-clause-grows : goal.returns-clause-grows
returns-clause-grows c = log_epochs

-- a fence that takes effect later has begun since, and awaits the server
pub returns-clause-unheld : goal.returns-clause-unheld
returns-clause-unheld c = log_unheld

-- the fence that is active then awaits the server again
pub returns-clause-left : goal.returns-clause-left
returns-clause-left c = log_left
