-- Of each frozen entry a letter says that it is at the new map.
use Rattle.law_moves.proofs.KnownOfMoves.{over_after}
use Rattle.law_moves.proofs.a_region_that_has_moved_has_all.Goals as goal

pub returns : goal.returns
returns c = over_after
