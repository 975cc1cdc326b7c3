-- What is so of each entry of a server, of what it has pending and of what letters tell, is so of its entries after each job.
use Rattle.law_epochs.proofs.Imports.{◌≡◌, A_copy, A_lead, An_operation, Becomes, Body, Cell, Did, IsPutFor, JobContext, JobResult, Key, Noted, PairState}
use Rattle.law_epochs.proofs.Imports.{Pending, Some, Stored, at, becomes_keeps, cell_cmp, effects_of, ℕ}
use Rattle.law_epochs.proofs.EntryPredicates.{AreWithin, IsWithin, OfKey, drop_within, put_within}

module _ (bound : Cell → ℕ → Type 0) (heard : Body → Type 0) (here : JobContext) (own : PairState) (all : AreWithin bound own.store.chains)
    (pending : (cell : Cell) (op : Pending) → at cell_cmp own.pairs.pending cell ≡ Some op → IsWithin bound op.key)
    (told : (said : Body) → heard said → OfKey (IsWithin bound) said) where
  within : (key : Key) (stored : Stored) (noted : Noted) → IsPutFor heard here own key stored noted → IsWithin bound key
  within _ _ _ (An_operation op reserved paired is fresh why) = pending op.cell op is
  within _ _ _ (A_lead number key version put origin bytes h follows last next) = told _ h
  within _ _ _ (A_copy entry holder last of_copy next) = told _ of_copy.said

  pub becomes_kept : (now : PairState) → Becomes heard here own now → AreWithin bound now.store.chains
  becomes_kept =
      becomes_keeps (AreWithin bound) heard here own (λ chains key stored noted why kept.
      put_within bound chains key stored kept (within key stored noted why))
      (drop_within bound) all

  pub did_kept : (done : JobResult) → Did heard here own done → AreWithin bound done.own.store.chains
  did_kept done did = becomes_kept done.own (effects_of heard here own done did)
