use Rattle.law_printed.proofs.PhasesEnd.{played_up_to}
use Rattle.law_printed.proofs.phases_are_played_where_the_next_line_is_later.Goals as goal

pub returns : goal.returns
returns c = played_up_to
