-- By induction on the history.
use Rattle.law_moves.proofs.MovesInHistories.{known_after}
use Rattle.law_moves.proofs.old_copies_are_still.Goals as goal

pub returns : goal.returns
returns c script records sound legal = (known_after script sound records legal).still
