-- Were the region further, a letter would say that the entry is there.
use Rattle.law_moves.proofs.KnownOfMoves.{comes_after, filling_after}
use Rattle.law_moves.proofs.a_fill_of_a_place_is_under_way.Goals as goal

pub returns-clause-coming : goal.returns-clause-coming
returns-clause-coming c script records sound legal n place cell pairs op row there is fills linked at_place within =
    comes_after script records sound legal n place cell pairs op there is fills row linked at_place

pub returns-clause-frozen : goal.returns-clause-frozen
returns-clause-frozen c script records sound legal n place cell pairs op there is fills =
    filling_after script records sound legal n place cell pairs op there is fills
