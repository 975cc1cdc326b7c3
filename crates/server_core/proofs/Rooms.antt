-- A device that shows its store has no more marks and rows, or records, than there may be.
use Rattle.std.proofs.Common.{◌≡◌, ◌≤◌, ℕ, ◌+◌, length, subst, arith}
use Rattle.std.proofs.lemmas.List.{length-map}
use Rattle.kept_chains.proofs.Commits.{kept_by}
use Rattle.kept_chains.specs.Kept.{store_of}
use Rattle.server_log.specs.Done as logs
use Rattle.pair_memory.specs.JobResult.{HoldsAt}
use Rattle.petal_disk.specs.declared.disk.Disk.{Ghosts}
use Rattle.petal_base.specs.Limits.{journal_records, marks_limit}
use Rattle.data_device.specs.Kept.{IsWithin, kept_of}
use Rattle.data_device.proofs.Held.{within_of}
use Rattle.server_store.specs.Holdings.{Holdings}
use Rattle.server_store.specs.Shown.{picture_of}
use Rattle.spec_rules.specs.Store.{marked_by}
use Rattle.state_store.specs.Body.{body_of}
use Rattle.state_store.specs.Device.{Keeping}

module _ {D : Type 0} (device : Ghosts D) where
  pub few_marked : (store : Holdings D) → HoldsAt device store → marked_by (store_of store) ≤ marks_limit
  few_marked store holds =
      subst IsWithin (kept_by (device.seen store.disk) (kept_of store.log.fresh store.log.records) (picture_of store) holds.shown)
      (within_of store.slots store.log.fresh store.log.records holds.logs.now.fit)

  module _ (state : Keeping D) (holds : logs.HoldsAt device state) where
    pub few_records : length state.records ≤ journal_records
    few_records = let few = holds.now.stands.few in let same = length-map state.records body_of in omega (arith, few, same)

    pub full_records : state.region.count ≡ journal_records → (more : ℕ) → more ≡ length state.records + 1 → more ≡ journal_records + 1
    full_records count more is = let counted = holds.count in omega (arith, count, is, counted)
