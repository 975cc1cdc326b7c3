-- The first job of a server's queue, with both of its devices.
use Rattle.std.specs.Prelude.{◌≡◌, ◌⊎◌, ◌↔◌, [], List, Option, None, Some, Result, Ok, Err, IfOk, OnOk, OnErr}
use Rattle.kept_chains.specs.Kept.{store_of}
use Rattle.kept_chains.specs.Standing.{StandsAsEither}
use Rattle.server_log.specs.Done as logs
use Rattle.pair_memory.specs.JobResult.{HoldsAt}
use Rattle.pair_memory.specs.PairMemory.{HasTicketsAt}
use Rattle.pair_memory.specs.declared.error.WorkError.{WorkError}
use Rattle.pair_memory.specs.declared.error.WorkError.TheVariants.{NoRoom, NoMemory, Exhausted}
use Rattle.petal_disk.specs.declared.disk.Disk.{Ghosts}
use Rattle.petal_disk.specs.Disk.{LeavesOnly}
use Rattle.petal_msg.specs.declared.letter.Letter.{Letter}
use Rattle.server_store.specs.Holdings.{Holdings, kept_in}
use Rattle.server_core.specs.ServerView.{ServerView, HasFaults, IsWork, left_by_first}
use Rattle.server_core.specs.Work.{IsFullWork}
use Rattle.state_store.specs.Device.{Keeping, StandsForEither}

-- the letters of a job that was there
abbrev pub as_some : Result (List Letter) WorkError → Result (Option (List Letter)) WorkError
as_some (Ok letters) = Ok (Some letters)
as_some (Err e) = Err e

-- the first job is done, as the rule says where both devices tell their bytes and show the stores; None comes exactly where there is
-- none. Where a device showed its store, now and after any crash, it shows the store after the job; a crash at any moment leaves
-- the store before it, or the one that the rule leaves; and a job by which the rule commits to the state device leaves the store as it is
pub record IsFirstJob {D E : Type 0} (device : Ghosts D) (other : Ghosts E) (old new : ServerView) (before after : Holdings D) (state left : Keeping E)
    (result : Result (Option (List Letter)) WorkError) : Type 0 where
  pub idle : (result ≡ Ok None) ↔ (old.queue ≡ [])
  pub work : IfOk result (λ worked. device.observable → other.observable → HoldsAt device before → logs.HoldsAt other state
      → IsWork old (store_of before) state.records new (store_of after) left.records worked)
  pub life : (new.running ≡ old.running) × (new.log.voter ≡ old.log.voter)
  pub keeps : OnOk result (HasTicketsAt new.side after)
  pub holds : device.observable → HoldsAt device before → OnOk result (HoldsAt device after)
  pub moments : device.observable → HoldsAt device before
      → LeavesOnly device.moment device.left_since before.disk after.disk
      (StandsAsEither before (left_by_first old (store_of before) state.records).own.store)
  pub still : result ≡ Err NoMemory → device.observable → HoldsAt device before → HoldsAt device after
  pub once : (after ≡ before) ⊎ ((left_by_first old (store_of before) state.records).log.records ≡ state.records)
  pub same : result ≡ Err NoMemory → (new ≡ old) × (after ≡ record before { disk = after.disk }) × (left ≡ state)
  pub kept : OnErr result (device.observable → after.entries ≡ before.entries)
  pub stays : OnErr result (kept_in after ≡ kept_in before)
  pub full : result ≡ Err NoRoom → IsFullWork device other old new before after state left
  pub spent : result ≡ Err Exhausted → (new ≡ old) × (after ≡ record before { disk = after.disk }) × (left ≡ state)
  pub cause : HasFaults (device.faults before.disk) (device.faults after.disk) (other.faults state.disk) (other.faults left.disk) result
  pub run : device.came_to before.disk after.disk
  pub state_holds : other.observable → logs.HoldsAt other state → OnOk result (logs.HoldsAt other left)
  pub state_moments : other.observable → logs.HoldsAt other state
      → LeavesOnly other.moment other.left_since state.disk left.disk
      (StandsForEither state.records (left_by_first old (store_of before) state.records).log.records)
  pub state_kept : OnErr result (left.records ≡ state.records)
  pub state_run : other.came_to state.disk left.disk
