-- What a job leaves of a server: one of the pairs, over the store, and one of the agreed log, over the state store.
use Rattle.std.specs.Prelude.{◌≡◌, ◌≤◌, ◌⊎◌, length, List, Result, Err, IfOk, OnOk, OnErr}
use Rattle.kept_chains.specs.Kept.{store_of}
use Rattle.kept_chains.specs.Standing.{StandsAsEither}
use Rattle.server_log.specs.Done as logs
use Rattle.pair_memory.specs.JobResult.{HasFault, HoldsAt}
use Rattle.pair_memory.specs.PairMemory.{HasTicketsAt}
use Rattle.pair_memory.specs.declared.error.WorkError.{WorkError}
use Rattle.pair_memory.specs.declared.error.WorkError.TheVariants.{Failed, NoRoom, NoMemory, Exhausted}
use Rattle.petal_disk.specs.declared.disk.Disk.{Ghosts}
use Rattle.petal_disk.specs.Disk.{LeavesOnly}
use Rattle.petal_msg.specs.declared.letter.Letter.{Letter}
use Rattle.spec_paxos.specs.declared.record.StateRecord.{StateRecord}
use Rattle.spec_rules.specs.Jobs.{stops, works}
use Rattle.petal_base.specs.Limits.{journal_records, marks_limit}
use Rattle.spec_rules.specs.Store.{Store, marked_by}
use Rattle.server_core.specs.ServerView.{ServerView, acted, here_in, left_by_first, server_of}
use Rattle.server_store.specs.Holdings.{Holdings, kept_in, marked_in}
use Rattle.state_store.specs.Device.{Keeping, StandsForEither}
use Rattle.state_store.specs.declared.error.StateError.{StateError}
use Rattle.state_store.specs.declared.error.StateError.TheVariants as state

-- what a refusal of the state store means for a job
abbrev pub of_state : StateError → WorkError
of_state state.Failed = Failed
of_state state.Blank = Failed
of_state (state.BadRecord index) = Failed
of_state state.JournalFull = NoRoom
of_state state.NoMemory = NoMemory
of_state state.Exhausted = Exhausted

-- there is no room for the record of the first job, and the rule lets the server stop
abbrev pub Stops : ServerView → Store → List StateRecord → Type 0
Stops old store records =
    works (here_in old) (server_of old store records) old.queue ≡ stops (here_in old) (server_of old store records)

module _ {D : Type 0} where
  -- the data device has no room for the mark of the first job, and nothing changed
  pub record IsFullStore (device : Ghosts D) (records : List StateRecord) (old new : ServerView) (before after : Holdings D) : Type 0 where
    pub count : marked_in before ≡ marks_limit
    pub same : (new ≡ old) × (after ≡ before)
    pub stops : device.observable → HoldsAt device before → Stops old (store_of before) records

  -- the first job, of the pairs or that applies an entry, is done as the rule says at these records of the state device, where
  -- the data device tells its bytes and shows the store; the rest is as of each job of the pairs. By the rule no record is
  -- committed, and the state device is not called
  pub record IsStoreWork (device : Ghosts D) (records : List StateRecord) (old new : ServerView) (before after : Holdings D)
      (result : Result (List Letter) WorkError) : Type 0 where
    pub work : IfOk result (λ letters. device.observable → HoldsAt device before → length records ≤ journal_records
        → acted new (store_of after) records letters ≡ works (here_in old) (server_of old (store_of before) records) old.queue)
    pub logged : (left_by_first old (store_of before) records).log.records ≡ records
    pub life : (new.running ≡ old.running) × (new.log.voter ≡ old.log.voter)
    pub keeps : OnOk result (HasTicketsAt new.side after)
    pub holds : device.observable → HoldsAt device before → OnOk result (HoldsAt device after)
    pub moments : device.observable → HoldsAt device before
        → LeavesOnly device.moment device.left_since before.disk after.disk
        (StandsAsEither before (left_by_first old (store_of before) records).own.store)
    pub still : result ≡ Err NoMemory → device.observable → HoldsAt device before → HoldsAt device after
    pub same : result ≡ Err NoMemory → (new ≡ old) × (after ≡ record before { disk = after.disk })
    pub kept : OnErr result (device.observable → after.entries ≡ before.entries)
    pub stays : OnErr result (kept_in after ≡ kept_in before)
    pub full : result ≡ Err NoRoom → IsFullStore device records old new before after
    pub spent : result ≡ Err Exhausted → (new ≡ old) × (after ≡ record before { disk = after.disk })
    pub cause : HasFault (device.faults before.disk) (device.faults after.disk) result
    pub run : device.came_to before.disk after.disk

  -- the state device's journal has no room for the record of the first job, and nothing changed
  pub record IsFullLog (device : Ghosts D) (store : Store) (old new : ServerView) (before after : Keeping D) : Type 0 where
    pub count : before.region.count ≡ journal_records
    pub same : (new ≡ old) × (after ≡ before)
    pub stops : device.observable → logs.HoldsAt device before → Stops old store before.records

  -- the first job, of the agreed log, is done as the rule says at this store, where the device tells its bytes and stands for the
  -- records; the rest is as of each job of the log. The store is not called
  pub record IsLogWork (device : Ghosts D) (store : Store) (old new : ServerView) (before after : Keeping D)
      (result : Result (List Letter) WorkError) : Type 0 where
    pub work : IfOk result (λ letters. device.observable → logs.HoldsAt device before → marked_by store ≤ marks_limit
        → acted new store after.records letters ≡ works (here_in old) (server_of old store before.records) old.queue)
    pub life : (new.running ≡ old.running) × (new.log.voter ≡ old.log.voter)
    pub side : new.side ≡ record old.side { copies = new.side.copies }
    pub holds : device.observable → logs.HoldsAt device before → OnOk result (logs.HoldsAt device after)
    pub moments : device.observable → logs.HoldsAt device before
        → LeavesOnly device.moment device.left_since before.disk after.disk
        (StandsForEither before.records (left_by_first old store before.records).log.records)
    pub same : result ≡ Err NoMemory → (new ≡ old) × (after ≡ before)
    pub spent : result ≡ Err Exhausted → (new ≡ old) × (after ≡ before)
    pub kept : OnErr result (after.records ≡ before.records)
    pub full : result ≡ Err NoRoom → IsFullLog device store old new before after
    pub cause : HasFault (device.faults before.disk) (device.faults after.disk) result
    pub run : device.came_to before.disk after.disk

-- either device has no room for what the first job commits; nothing changed, and the rule lets the server stop
pub record IsFullWork {D E : Type 0} (device : Ghosts D) (other : Ghosts E) (old new : ServerView) (before after : Holdings D)
    (state left : Keeping E) : Type 0 where
  pub count : (marked_in before ≡ marks_limit) ⊎ (state.region.count ≡ journal_records)
  pub same : (new ≡ old) × (after ≡ before) × (left ≡ state)
  pub stops : device.observable → other.observable → HoldsAt device before → logs.HoldsAt other state → Stops old (store_of before) state.records
