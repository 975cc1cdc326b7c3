-- Before it wanted to report, it had drained.
use Rattle.law_requests.proofs.OpenedAfterReport.{reports_hold}
use Rattle.law_requests.proofs.reports.a_server_that_wants_to_report_writes_nothing.Goals as goal

pub returns : goal.returns
returns c script records sound legal = reports_hold script records sound legal
