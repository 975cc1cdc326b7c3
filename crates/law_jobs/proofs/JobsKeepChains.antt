-- What each put and each drop of an entry keeps of all chains, a job keeps.
use Rattle.law_jobs.proofs.Imports.{Body, Cell, Chain, Did, JobContext, JobResult, Key, PairState, Store, Stored, Table, chains_with, without_entry}
use Rattle.law_jobs.specs.Effects.{Becomes, Drops, Effect, IsPutFor, May, Noted, Puts, applied}
use Rattle.law_jobs.proofs.JobsAreEffects.{all_keep, effects_of}

module _ (P : Table Cell Chain → Type 0) (heard : Body → Type 0) (here : JobContext) (own : PairState)
    (puts : (chains : Table Cell Chain) (key : Key) (stored : Stored) (noted : Noted) → IsPutFor heard here own key stored noted → P chains
    → P (chains_with chains key stored))
    (drops : (store : Store) (key : Key) → P store.chains → P (without_entry store key).chains) (all : P own.store.chains) where
  each : (now : PairState) (e : Effect) → May heard here own now e → P now.store.chains → P (applied now e).store.chains
  each now (Puts key stored noted) may kept = puts now.store.chains key stored noted may.0 kept
  each now (Drops key) may kept = drops now.store key kept
  each now _ may kept = kept

  pub becomes_keeps : (now : PairState) → Becomes heard here own now → P now.store.chains
  becomes_keeps now so = all_keep heard here own (λ (o : PairState). P o.store.chains) each all now so

  pub chains_keep : (done : JobResult) → Did heard here own done → P done.own.store.chains
  chains_keep done did = becomes_keeps done.own (effects_of heard here own done did)
