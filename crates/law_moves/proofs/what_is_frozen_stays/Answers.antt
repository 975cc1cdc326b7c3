-- The stage of a cell only grows, so it begins to leave once.
use Rattle.law_moves.proofs.FrozenIsWhatCounted.{frozen_stays}
use Rattle.law_moves.proofs.what_is_frozen_stays.Goals as goal

pub returns : goal.returns
returns c = frozen_stays
