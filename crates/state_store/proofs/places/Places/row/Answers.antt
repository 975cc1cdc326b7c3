use Rattle.std.proofs.Common.{Option, Some, None, IfSome}
use Rattle.state_store.proofs.places.Places.row.Goals as goal

if_some : {X : Type 0} (P : Type 0) → P → (found : Option X) → IfSome found (λ _. P)
if_some P holds None = tt
if_some P holds (Some x) = holds

pub returns-in-Some-clause-within : goal.returns-in-Some-clause-within
returns-in-Some-clause-within c = if_some _ c.in-Some.ensures.within c.row_again.result.chosen
