-- Were the region further, the second server would have the entry.
use Rattle.law_moves.proofs.FillsAtSeconds.{second_after}
use Rattle.law_moves.proofs.what_a_second_server_fills_is_under_way.Goals as goal

pub returns : goal.returns
returns c script records sound legal n m cell pairs op row runs seat linked both first second there is fills following alive =
    second_after script records sound legal n m cell pairs op row runs seat linked both first second there is fills following alive
