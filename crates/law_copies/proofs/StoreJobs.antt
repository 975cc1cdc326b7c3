-- No job makes a store wait to be filled by others, or takes that away; and a ballot leaves the store as it is.
use Rattle.law_copies.proofs.Imports.{◌∙◌, ◌≡◌, Begins_copy, Body, Bool, Command, Did, Effect, JobContext, JobResult, Option, PairState, State, applied}
use Rattle.law_copies.proofs.Imports.{job_keeps, proposed, proposed_as, refl}

-- whether the own part's store waits to be filled
abbrev pub waits : PairState → Bool
waits own = own.store.fresh

each_waits : (now : PairState) (e : Effect) → waits (applied now e) ≡ waits now
each_waits now (Begins_copy cell) = refl
each_waits now _ = refl

pub did_waits : (heard : Body → Type 0) (here : JobContext) (own : PairState) (done : JobResult) → Did heard here own done → waits done.own ≡ waits own
did_waits heard here own = job_keeps heard here own (λ (o : PairState). waits o ≡ waits own) (λ now e may same. each_waits now e ∙ same) refl

pub ballot_store : (state : State) (own : PairState) (o : Option Command) → (proposed state own o).store ≡ own.store
ballot_store state own o = proposed_as (λ (x : PairState). x.store) (λ own row. refl) state own o
