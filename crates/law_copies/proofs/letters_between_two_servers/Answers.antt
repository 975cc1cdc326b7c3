-- By induction on the history.
use Rattle.law_copies.proofs.CopiesInHistories.{good_after}
use Rattle.law_copies.proofs.letters_between_two_servers.Goals as goal

pub returns : goal.returns
returns c script records sound legal = good_after script records sound legal
