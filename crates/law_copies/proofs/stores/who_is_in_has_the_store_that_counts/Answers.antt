-- Who is In as a later incarnation has applied its Join, with its blocks or with an empty store.
use Rattle.law_copies.proofs.StoreHistories.{in_counts, in_filled, in_own}
use Rattle.law_copies.proofs.stores.who_is_in_has_the_store_that_counts.Goals as goal

pub returns-clause-filled : goal.returns-clause-filled
returns-clause-filled c script records n sound legal runs seat = in_filled script records n sound legal runs seat

pub returns-clause-own : goal.returns-clause-own
returns-clause-own c script records n sound legal runs seat = in_own script records n sound legal runs seat

pub returns-clause-counts : goal.returns-clause-counts
returns-clause-counts c script records n prefix sound legal is_prefix seat = in_counts script records n prefix sound legal is_prefix seat
