-- It is settled by a Join that acts, which is one more than at the blank.
use Rattle.law_copies.proofs.StoreHistories.{blanked_waits}
use Rattle.law_copies.proofs.stores.what_was_blanked_waits.Goals as goal

pub returns : goal.returns
returns c script records n before sound legal is joins = blanked_waits script records n before sound legal is joins
