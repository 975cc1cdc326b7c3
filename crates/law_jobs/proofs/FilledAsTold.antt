-- What a server remembers of entries that it has moved is as before after a job, or a letter told of the next one of a link.
use Rattle.law_jobs.proofs.Imports.{◌≡◌, Body, Did, IsNextKey, JobContext, JobResult, Key, LinkId, LinkRow, PairState, Table, id_of, link_cmp, put, refl}
use Rattle.law_jobs.specs.Effects.{Effect, Fills, May, applied}
use Rattle.law_jobs.proofs.JobsAreEffects.{job_keeps}
use Rattle.petal_msg.specs.declared.body.Body.TheVariants as body

pub data Remembers (heard : Body → Type 0) (here : JobContext) (own : PairState) (filled : Table LinkId Key) : Type 0 where
  As_before : filled ≡ own.filled → Remembers heard here own filled
  Told_of : (key : Key) (row : LinkRow) → heard (body.Filled key) → IsNextKey here own key row
      → filled ≡ put link_cmp own.filled (id_of row) (record { map = row.map; block = key.block; epoch = key.epoch }) → Remembers heard here own filled

module _ (heard : Body → Type 0) (here : JobContext) (own : PairState) where
  each : (now : PairState) (e : Effect) → May heard here own now e → Remembers heard here own now.filled → Remembers heard here own (applied now e).filled
  each now (Fills row to) may kept =
      let so = may.0 in Told_of so.key row so.told so.next (λ i. put link_cmp (may.1 i) (id_of row) (so.is i))
  each now _ may kept = kept

  pub did_remember : (done : JobResult) → Did heard here own done → Remembers heard here own done.own.filled
  did_remember = job_keeps heard here own (λ (o : PairState). Remembers heard here own o.filled) each (As_before refl)
