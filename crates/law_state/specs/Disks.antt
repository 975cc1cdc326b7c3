-- How disks and cells belong together in a state that plain entries made, and who is In.
use Rattle.law_state.specs.Imports.{Cell, Command, DiskRow, In, Join, Snapshot, State, cell_link, disk_at, has_map, is_in, is_up, named, owner, servers_of}
use Rattle.law_state.specs.Imports.{snapshot_named}
use Rattle.std.specs.Prelude.{◌<◌, ◌≡◌, ◌≤◌, ◌⊎◌, Bool, List, None, Some, false, true, ℕ}
use Rattle.law_state.specs.Steady.{HasLink}

-- each disk is found by its number and by its name, and owns its map and the one that it leaves; two disks have no map in common; each snapshot
-- of a disk is found by its name, and is of an epoch below the disk's own; the cells of a disk's maps have links; and a cell of no disk has none
pub record AreDisks (state : State) : Type 0 where
  pub at : (row : DiskRow) → In row state.disks.rows → disk_at state.disks.rows row.id ≡ Some row
  pub named : (row : DiskRow) → In row state.disks.rows → named state.disks.rows row.name ≡ Some row
  pub apart : (of : ℕ) (one other : DiskRow) → In one state.disks.rows → In other state.disks.rows → has_map of one ≡ true → has_map of other ≡ true
      → one ≡ other
  pub owned : (of : ℕ) (row : DiskRow) → In row state.disks.rows → has_map of row ≡ true → owner state of ≡ Some row
  pub snaps : (row : DiskRow) (snap : Snapshot) → In row state.disks.rows → In snap row.snaps → snapshot_named row.snaps snap.name ≡ Some snap
  pub before : (row : DiskRow) (snap : Snapshot) → In row state.disks.rows → In snap row.snaps → snap.epoch < row.epoch
  pub served : (row : DiskRow) (cell : Cell) → In row state.disks.rows → has_map cell.map row ≡ true → HasLink state cell
  pub empty : (cell : Cell) → ((row : DiskRow) → In row state.disks.rows → has_map cell.map row ≡ false) → cell_link state cell ≡ None

-- so many servers, each In or Out, and no incarnation is below the first
pub record AreInOrOut (servers : ℕ) (state : State) : Type 0 where
  pub many : servers_of state ≡ servers
  pub each : (n : ℕ) → n < servers → ((inc : ℕ) × (is_in state n inc ≡ true)) ⊎ (is_up state n ≡ false)
  pub first : (n inc : ℕ) → is_in state n inc ≡ true → 1 ≤ inc
  pub up : (n : ℕ) → is_up state n ≡ true → (inc : ℕ) × (is_in state n inc ≡ true)
  pub seated : (n inc : ℕ) → is_in state n inc ≡ true → is_up state n ≡ true

-- the log has this incarnation's Join
abbrev pub HasJoined : List Command → (n inc : ℕ) → Type 0
HasJoined log n inc = (blank : Bool) × In (Join n inc blank) log
