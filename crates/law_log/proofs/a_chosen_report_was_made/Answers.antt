-- A ballot for a report starts in a step of its server, after entries by which the active fence awaits it.
use Rattle.law_log.proofs.LogInHistories.{report_counts, report_was_made}
use Rattle.law_log.proofs.a_chosen_report_was_made.Goals as goal

pub returns-clause-counts : goal.returns-clause-counts
returns-clause-counts c = report_counts

pub returns-clause-made : goal.returns-clause-made
returns-clause-made c = report_was_made
