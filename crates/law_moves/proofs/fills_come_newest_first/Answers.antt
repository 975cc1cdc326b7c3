-- By induction on the history.
use Rattle.law_moves.proofs.MovesInHistories.{known_after}
use Rattle.law_moves.proofs.fills_come_newest_first.Goals as goal

pub returns : goal.returns
returns c script records sound legal = (known_after script sound records legal).filled
