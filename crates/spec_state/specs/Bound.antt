-- No number of the state passes the revision.
use Rattle.std.specs.Prelude.{ℕ, ◌+◌, ◌≤◌, List, [], ◌∷◌, length}
use Rattle.global_tables.specs.declared.disk.DiskRow.{DiskRow}
use Rattle.spec_state.specs.State.{State}

-- each disk's epoch leaves room for as many snapshots as fences wait, of all that were queued so far
abbrev pub EpochsBelow : (waiting queued : ℕ) → List DiskRow → Type 0
EpochsBelow waiting queued [] = Unit {0}
EpochsBelow waiting queued (row ∷ rows) = (row.epoch + waiting ≤ queued) × EpochsBelow waiting queued rows

-- at most so many maps, disks and fences were made so far, and no epoch is above the number of fences that took effect
pub record IsWithin (most : ℕ) (s : State) : Type 0 where
  pub maps : length s.maps ≤ most
  pub made : s.disks.made ≤ most
  pub queued : s.view.queued ≤ most
  pub queue : length s.view.queue ≤ s.view.queued
  pub epochs : EpochsBelow (length s.view.queue) s.view.queued s.disks.rows
