-- By induction on what the whole has more; ages only rise.
use Rattle.law_state.proofs.Incarnations.{joined_in, joined_once, joined_since}
use Rattle.law_state.proofs.an_incarnation_joins_once.Goals as goal

pub returns-clause-since : goal.returns-clause-since
returns-clause-since c servers prefix whole n inc plain is_prefix = joined_since servers prefix whole n inc plain is_prefix

pub returns-clause-joins : goal.returns-clause-joins
returns-clause-joins c = joined_in

pub returns-clause-once : goal.returns-clause-once
returns-clause-once c servers prefix whole n inc other plain is_prefix = joined_once servers prefix whole n inc plain is_prefix other
