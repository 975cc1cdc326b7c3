-- By induction on the history.
use Rattle.law_requests.proofs.RequestsInHistories.{requests_after}
use Rattle.law_requests.proofs.answered_requests_are_over.Goals as goal

pub returns : goal.returns
returns c script records sound legal = requests_after script records sound legal
