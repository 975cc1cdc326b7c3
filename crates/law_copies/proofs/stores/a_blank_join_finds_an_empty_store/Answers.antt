-- The store waited when the Join was wanted; had it been settled since, a later Join would have been chosen before.
use Rattle.law_copies.proofs.StoreHistories.{join_empty, join_own}
use Rattle.law_copies.proofs.stores.a_blank_join_finds_an_empty_store.Goals as goal

pub returns-clause-empty : goal.returns-clause-empty
returns-clause-empty c script prefix own n sound legal more = join_empty script prefix own n sound legal more

pub returns-clause-own : goal.returns-clause-own
returns-clause-own c script prefix own n sound legal more = join_own script prefix own n sound legal more
