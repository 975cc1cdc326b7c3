-- The entry that made it In is its Join.
use Rattle.law_state.proofs.Incarnations.{who_is_in}
use Rattle.law_state.proofs.who_is_in_has_joined.Goals as goal

pub returns : goal.returns
returns c = who_is_in
