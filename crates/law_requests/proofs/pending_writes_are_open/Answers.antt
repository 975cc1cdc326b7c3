-- By induction on the history.
use Rattle.law_requests.proofs.RequestsInHistories.{open_after}
use Rattle.law_requests.proofs.pending_writes_are_open.Goals as goal

pub returns : goal.returns
returns c script records sound legal = open_after script records sound legal
