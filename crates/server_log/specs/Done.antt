-- What a job of the log leaves, and what every such job keeps.
use Rattle.std.specs.Prelude.{◌≡◌, ◌≤◌, ◌<◌, ◌+◌, length, Result, Err, IfOk, IfErr, OnOk, OnErr, ⊤}
use Rattle.petal_disk.specs.declared.disk.Disk.{Ghosts}
use Rattle.petal_disk.specs.Disk.{LeavesOnly}
use Rattle.spec_paxos.specs.Kept.{committed}
use Rattle.spec_paxos.specs.declared.record.StateRecord.{StateRecord}
use Rattle.spec_rules.specs.Log.{LogDone as Rule}
use Rattle.state_store.specs.Body.{HasBody}
use Rattle.state_store.specs.Device.{Keeping, Holds, StandsForEither}
use Rattle.state_store.specs.declared.error.StateError.{StateError}
use Rattle.state_store.specs.declared.error.StateError.TheVariants.{Failed, Blank, BadRecord, JournalFull, NoMemory, Exhausted}
use Rattle.server_log.specs.declared.memory.done.LogDone.{LogDone}
use Rattle.server_log.specs.Part.{Part, log_of, sender_of}
use Rattle.server_log.specs.Said.{IsBy}
use Rattle.petal_base.specs.Limits.{journal_records}

-- the device stands for the records, now and after any crash
abbrev pub HoldsAt : {D : Type 0} → Ghosts D → Keeping D → Type 0
HoldsAt device store = Holds store.region (device.seen store.disk) (device.may_leave store.disk) store.records

-- the refusals of a job of the log
abbrev pub IsLogError : StateError → Type 0
IsLogError Failed = ⊤
IsLogError Blank = ⊥
IsLogError (BadRecord index) = ⊥
IsLogError JournalFull = ⊤
IsLogError NoMemory = ⊤
IsLogError Exhausted = ⊤

module _ {D : Type 0} where
  -- the rule has one record more than the journal has room for, and nothing changed
  pub record IsFull (old new : Part) (before after : Keeping D) (rule : Rule) : Type 0 where
    pub count : before.region.count ≡ journal_records
    pub over : length rule.log.records ≡ length before.records + 1
    pub same : (new ≡ old) × (after ≡ before)

  -- the rule commits a record that has no spelling, since its place or its round is beyond the greatest, and nothing changed
  pub record IsSpent (old new : Part) (before after : Keeping D) (rule : Rule) : Type 0 where
    pub entry : StateRecord
    pub unspelled : ¬ HasBody entry
    pub records : rule.log.records ≡ committed before.records entry
    pub same : (new ≡ old) × (after ≡ before)

  -- a job is the rule's, and any refusal left the records; one for memory left all as it was. A device that stood for the
  -- records stands for those after the job, and a crash at any moment leaves the records before it, or the rule's after it.
  -- `Failed` comes only where the count of faults has risen, and `JournalFull` only where the journal has no room for the
  -- record of the job, and `Exhausted` only where no record can be of the job
  pub record IsLogDone (device : Ghosts D) (old new : Part) (before after : Keeping D) (result : Result LogDone StateError) (rule : Rule) : Type 0 where
    pub done : IfOk result (λ done. IsBy (sender_of old) (log_of new after.records) done rule)
    pub voter : new.voter ≡ old.voter
    pub holds : device.observable → HoldsAt device before → OnOk result (HoldsAt device after)
    pub moments : device.observable → HoldsAt device before
        → LeavesOnly device.moment device.left_since before.disk after.disk (StandsForEither before.records rule.log.records)
    pub kept : OnErr result (after.records ≡ before.records)
    pub same : result ≡ Err NoMemory → (new ≡ old) × (after ≡ before)
    pub only : IfErr result IsLogError
    pub full : result ≡ Err JournalFull → IsFull old new before after rule
    pub spent : result ≡ Err Exhausted → IsSpent old new before after rule
    pub later : device.faults before.disk ≤ device.faults after.disk
    pub failed : result ≡ Err Failed → device.faults before.disk < device.faults after.disk
    pub run : device.came_to before.disk after.disk
