-- By what is kept of moves.
use Rattle.law_moves.proofs.KnownOfMoves.{rule_after}
use Rattle.law_moves.proofs.moves_keep_the_rule.Goals as goal

pub returns : goal.returns
returns c = rule_after
