-- By induction on the history.
use Rattle.law_requests.proofs.RequestsInHistories.{asking_after}
use Rattle.law_requests.proofs.letters_of_clients_and_replies.Goals as goal

pub returns : goal.returns
returns c script records sound legal = asking_after script records sound legal
