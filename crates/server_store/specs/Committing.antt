-- What a call that commits records leaves.
use Rattle.std.specs.Prelude.{◌≡◌, ◌⊎◌, ℕ, List, filter, fold, map, Result, OnOk, OnErr}
use Rattle.busy_marks.specs.declared.marks.Mark.{Mark}
use Rattle.busy_marks.specs.declared.marks.MarkKind.{MarkKind}
use Rattle.busy_marks.specs.Marks.{has_mark, without_mark}
use Rattle.petal_base.specs.declared.cell.Cell.{Cell}
use Rattle.data_device.specs.declared.record.StoreRecord.TheVariants as records
use Rattle.petal_disk.specs.Disk.{LeavesOnly}
use Rattle.petal_disk.specs.declared.disk.Disk.{Ghosts}
use Rattle.data_device.specs.declared.record.StoreRecord.{StoreRecord}
use Rattle.data_device.specs.declared.error.StoreError.{StoreError}
use Rattle.data_device.specs.Errors.{HasFault}
use Rattle.server_store.specs.Holdings.{Holdings, kept_in}
use Rattle.server_store.specs.Shown.{BeforeOrAfter, HoldsAt}

-- Commits records together, with the content of what they put: all, or at any crash none; no record where nothing is needed. What is
-- kept in memory after a failure is what was kept before. A device that showed the store before shows what the call leaves, or after a
-- failure the store before or the one with the records, and so does a crash at any moment
pub record IsCommitOf {D T : Type 0} (device : Ghosts D) (before after : Holdings D) (result : Result T StoreError) (entries : List StoreRecord)
    (content : List ℕ) : Type 0 where
  pub fresh : after.log.fresh ≡ before.log.fresh
  pub kept : OnErr result (kept_in after ≡ kept_in before)
  pub holds : device.observable → HoldsAt device before → OnOk result (HoldsAt device after)
  pub either : device.observable → HoldsAt device before → BeforeOrAfter (device.seen after.disk) before entries content
  pub any_moment : device.observable → HoldsAt device before
      → LeavesOnly device.moment device.left_since before.disk after.disk (λ c. BeforeOrAfter c before entries content)
  pub cause : HasFault (device.faults before.disk) (device.faults after.disk) result
  pub run : device.came_to before.disk after.disk

-- the marks without those of this kind on these cells
abbrev pub unmarked : MarkKind → List Cell → List Mark → List Mark
unmarked kind cells marks = fold (λ ms cell. without_mark ms (record { kind = kind; cell = cell })) marks cells

-- the records that take them away from the cells that have it
abbrev pub unmarks_of : MarkKind → List Cell → List Mark → List StoreRecord
unmarks_of kind cells marks = map (λ cell. records.Unmark kind cell) (filter (λ cell. has_mark (record { kind = kind; cell = cell }) marks) cells)
