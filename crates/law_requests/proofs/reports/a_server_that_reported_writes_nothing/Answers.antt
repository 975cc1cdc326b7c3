-- By what is known of requests and of reports.
use Rattle.law_requests.proofs.OpenedAfterReport.{nothing_held_after}
use Rattle.law_requests.proofs.reports.a_server_that_reported_writes_nothing.Goals as goal

pub returns : goal.returns
returns c script records sound legal = nothing_held_after script records sound legal
