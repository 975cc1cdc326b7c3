-- A server works on its store only while it is In as itself, and then the store waits for nobody.
use Rattle.law_copies.proofs.StoreHistories.{always_empty}
use Rattle.law_copies.proofs.stores.a_store_that_waits_is_empty.Goals as goal

pub returns : goal.returns
returns c = always_empty
