-- It was put there.
use Rattle.petal_table.proofs.Rows.{at_same}
use Rattle.spec_rules.proofs.laws.an_ended_request_is_remembered.Goals as goal

pub returns : goal.returns
returns c own client seq ending = at_same own.pairs.finished client _
