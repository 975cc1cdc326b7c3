-- Commits of a store that set a mark or take one away.
use Rattle.std.specs.Prelude.{◌≡◌, ◌+◌, Result, IfErr, IsErrOf, OnOk, OnErr}
use Rattle.petal_base.specs.Limits.{marks_limit}
use Rattle.petal_disk.specs.Disk.{LeavesOnly}
use Rattle.petal_disk.specs.declared.disk.Disk.{Ghosts}
use Rattle.spec_rules.specs.Store.{Store, marked_by}
use Rattle.server_store.specs.Errors.{IsMarkError, HasFault}
use Rattle.server_store.specs.Holdings.{Holdings, kept_in, marked_in}
use Rattle.server_store.specs.Shown.{HoldsAt}
use Rattle.server_store.specs.StoreError.{StoreError}
use Rattle.server_store.specs.StoreError.TheVariants.{MarksFull, NoMemory}
use Rattle.kept_chains.specs.Kept.{store_of}
use Rattle.kept_chains.specs.Standing.{StandsAsEither}

-- marks and rows are as many as there may be, the rule has one more, and nothing changed
pub record IsMarksFull {D : Type 0} (before after : Holdings D) (rule : Store) : Type 0 where
  pub count : marked_in before ≡ marks_limit
  pub over : marked_by rule ≡ marks_limit + 1
  pub same : after ≡ before

-- the store is what the rule says where the device tells its bytes, and the device that showed it shows it still; a crash at
-- any moment leaves the store before, or that of the rule. Its entries and tickets stay, whatever comes, and after a refusal all
-- that is kept of it; one that was refused for memory changed nothing
pub record IsCommit {D T : Type 0} (device : Ghosts D) (before after : Holdings D) (result : Result T StoreError) (rule : Store) : Type 0 where
  pub done : OnOk result (device.observable → store_of after ≡ rule)
  pub holds : device.observable → HoldsAt device before → OnOk result (HoldsAt device after)
  pub moments : device.observable → HoldsAt device before
      → LeavesOnly device.moment device.left_since before.disk after.disk (StandsAsEither before rule)
  pub tickets : after.tickets ≡ before.tickets
  pub kept : device.observable → after.entries ≡ before.entries
  pub stays : OnErr result (kept_in after ≡ kept_in before)
  pub errors : IfErr result IsMarkError
  pub memory : IsErrOf result NoMemory → after ≡ before
  pub full : IsErrOf result MarksFull → IsMarksFull before after rule
  pub cause : HasFault (device.faults before.disk) (device.faults after.disk) result
  pub run : device.came_to before.disk after.disk

-- so of a commit that changes the entries: they stay where it was refused. A slot that it needed was set apart and used at once
pub record IsChange {D T : Type 0} (device : Ghosts D) (before after : Holdings D) (result : Result T StoreError) (rule : Store) : Type 0 where
  pub done : OnOk result (device.observable → store_of after ≡ rule)
  pub holds : device.observable → HoldsAt device before → OnOk result (HoldsAt device after)
  pub moments : device.observable → HoldsAt device before
      → LeavesOnly device.moment device.left_since before.disk after.disk (StandsAsEither before rule)
  pub tickets : after.tickets ≡ before.tickets
  pub kept : OnErr result (device.observable → after.entries ≡ before.entries)
  pub stays : OnErr result (kept_in after ≡ kept_in before)
  pub errors : IfErr result IsMarkError
  pub memory : IsErrOf result NoMemory → after ≡ before
  pub full : IsErrOf result MarksFull → IsMarksFull before after rule
  pub cause : HasFault (device.faults before.disk) (device.faults after.disk) result
  pub run : device.came_to before.disk after.disk
