-- What a server's two devices show after a job in which one of them failed.
use Rattle.std.specs.Prelude.{◌≡◌, ◌⊎◌, ℕ, List, []}
use Rattle.kept_chains.specs.Kept.{store_of}
use Rattle.kept_chains.specs.Standing.{StandsAs}
use Rattle.server_log.specs.Done as logs
use Rattle.pair_memory.specs.JobResult.{HoldsAt}
use Rattle.petal_disk.specs.declared.disk.Disk.{Ghosts}
use Rattle.spec_paxos.specs.declared.record.StateRecord.{StateRecord}
use Rattle.spec_rules.specs.Store.{Store}
use Rattle.spec_rules.specs.declared.step.CommitEnd.{CommitEnd}
use Rattle.spec_rules.specs.declared.step.CommitEnd.TheVariants.{Before, After}
use Rattle.server_store.specs.Holdings.{Holdings, kept_in}
use Rattle.state_store.specs.Device.{Keeping}

-- what two devices show of a server: its store and its records
pub record Shown : Type 0 where
  pub store : Store
  pub records : List StateRecord

abbrev pub shown_in : {D : Type 0} → Holdings D → List StateRecord → Shown
shown_in store records = record { store = store_of store; records = records }

-- a store without what it has in memory only
abbrev pub on_device : Store → Store
on_device store = record store { tickets = 0 }

-- the store stays, and so does what its device, as it is now, shows of it after any crash
pub record StoreStays {D : Type 0} (device : Ghosts D) (disk : D) (was : Holdings D) (will : Store) : Type 0 where
  pub same : on_device will ≡ on_device (store_of was)
  pub left : (c : List ℕ) → device.may_leave disk c → StandsAs c (kept_in was) (store_of was)

-- a job commits to one of the two devices at most
abbrev pub CommitsOnce : {D : Type 0} → Ghosts D → D → Holdings D → List StateRecord → Shown → Type 0
CommitsOnce device disk was records will = (will.records ≡ records) ⊎ StoreStays device disk was will.store

-- what is shown, where the job's commit was not made, and where it was
abbrev pub shown_at : CommitEnd → (before after : Shown) → Shown
shown_at Before before after = before
shown_at After before after = after

-- the devices show the one or the other
pub record Shows (end : CommitEnd) (before after : Shown) (store : Store) (records : List StateRecord) : Type 0 where
  pub store_is : store ≡ on_device (shown_at end before after).store
  pub records_are : records ≡ (shown_at end before after).records

-- both stores are what their devices show, which is what they were
pub record IsReread {D : Type 0} (device : Ghosts D) (before after : Holdings D) (was now : Keeping D) : Type 0 where
  pub store_is : store_of after ≡ on_device (store_of before)
  pub tickets : after.tickets ≡ []
  pub records_are : now.records ≡ was.records
  pub holds : HoldsAt device after
  pub state_holds : logs.HoldsAt device now
