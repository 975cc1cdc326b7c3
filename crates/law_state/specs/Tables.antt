-- The tables that plain entries make.
use Rattle.law_state.specs.Imports.{Cell, DiskRow, Fence, Fenced, In, LinkRow, MapRow, Member, Move, New, Old, Region, RegionState, Snapshot, State, Whole}
use Rattle.law_state.specs.Imports.{awaits, disk_at, disk_of, head, is_tuple, is_up, last_inc, leaves, link_at, owner, snapshot_named, tuple_of}
use Rattle.std.specs.Prelude.{[], ◌%◌, ◌++◌, ◌+◌, ◌<◌, ◌≡◌, ◌≢◌, ◌≤◌, ◌⊎◌, List, None, Some, length, slice_get, slice_index, true, ℕ}
use Rattle.law_state.specs.Ages.{age_of}
use Rattle.law_state.specs.Homes.{stage_at, stage_of}
use Rattle.law_state.specs.LinkRows.{GoesOn, IsServed}

-- the regions of a move, of which this one is next: those before it are at the new map, and those after it at the old one
pub record IsShape (regions : List RegionState) (next : ℕ) (now : RegionState) : Type 0 where
  pub many : length regions ≡ 16
  pub low : next < 16
  pub new : (i : ℕ) → i < next → slice_get regions i ≡ Some New
  pub here : slice_get regions next ≡ Some now
  pub old : (i : ℕ) → next < i → i < 16 → slice_get regions i ≡ Some Old

-- a move from an earlier map of the disk, of which not all regions are at the new one
pub record IsMove (maps : List MapRow) (disk of : ℕ) (move : Move) : Type 0 where
  pub old : move.old_map < of
  pub from : disk_of maps move.old_map ≡ Some disk
  pub next : ℕ
  pub now : RegionState
  pub shape : IsShape move.regions next now
  pub waits : (now ≡ Old) ⊎ (now ≡ Fenced)

-- the row of the disk that was made at this place: its map was made for it, and so was the one that it leaves, if it is on the move; it has
-- one snapshot for each epoch below its own, with a name of its own
pub record IsRowAt (maps : List MapRow) (place : ℕ) (row : DiskRow) : Type 0 where
  pub id : row.id ≡ place
  pub of : disk_of maps row.map ≡ Some place
  pub many : length row.snaps ≡ row.epoch
  pub snaps : (i : ℕ) (snap : Snapshot) → slice_get row.snaps i ≡ Some snap → snap.epoch ≡ i
  pub names : (i j : ℕ) (one other : Snapshot) → slice_get row.snaps i ≡ Some one → slice_get row.snaps j ≡ Some other → one.name ≡ other.name → i ≡ j
  pub moving : (move : Move) → row.moving ≡ Some move → IsMove maps place row.map move

-- a fence for a snapshot of a known disk that has none of the name so far
pub record IsForSnapshot (state : State) (fence : Fence) : Type 0 where
  pub disk : ℕ
  pub name : List ℕ
  pub client : ℕ
  pub seq : ℕ
  pub kind : fence.kind ≡ Whole disk name client seq
  pub row : DiskRow
  pub known : disk_at state.disks.rows disk ≡ Some row
  pub fresh : snapshot_named row.snaps name ≡ None

-- a fence for the next region of a known disk that is on the move; none is on its way
pub record IsForRegion (state : State) (fence : Fence) : Type 0 where
  pub disk : ℕ
  pub region : ℕ
  pub kind : fence.kind ≡ Region disk region
  pub row : DiskRow
  pub known : disk_at state.disks.rows disk ≡ Some row
  pub move : Move
  pub moves : row.moving ≡ Some move
  pub shape : IsShape move.regions region Old

-- a fence that waits
pub data IsFence (state : State) (fence : Fence) : Type 0 where
  Of_disk : IsForSnapshot state fence → IsFence state fence
  Of_region : IsForRegion state fence → IsFence state fence

-- two of them are not for the same snapshot, nor for regions of one disk; and the active one waits for servers only that are In
pub record AreQueued (state : State) : Type 0 where
  pub each : (i : ℕ) (fence : Fence) → slice_get state.view.queue i ≡ Some fence → IsFence state fence
  pub apart : (i j : ℕ) (one other : Fence) (disk client seq later again : ℕ) (name : List ℕ) → slice_get state.view.queue i ≡ Some one
      → slice_get state.view.queue j ≡ Some other → one.kind ≡ Whole disk name client seq → other.kind ≡ Whole disk name later again → i ≡ j
  pub once : (i j : ℕ) (one other : Fence) (disk region later : ℕ) → slice_get state.view.queue i ≡ Some one
      → slice_get state.view.queue j ≡ Some other → one.kind ≡ Region disk region → other.kind ≡ Region disk later → i ≡ j
  pub present : (fence : Fence) (n : ℕ) → head state.view.queue ≡ Some fence → awaits fence n ≡ true → is_up state n ≡ true

-- the row of a link that a tuple asks for: between neighbours, and served
pub record IsLinkOf (state : State) (of : ℕ) (tuple : List ℕ) (link : ℕ) (row : LinkRow) : Type 0 where
  pub map : row.map ≡ of
  pub place : row.link ≡ link
  pub primary : row.primary ≡ slice_index tuple link
  pub secondary : row.secondary ≡ slice_index tuple ((link + 1) % length tuple)
  pub served : IsServed state row

-- a map has each link that its tuple asks for
pub record HasLinkOf (state : State) (of : ℕ) (tuple : List ℕ) (link : ℕ) : Type 0 where
  pub row : LinkRow
  pub is : link_at state.links of link ≡ Some row
  pub asked : IsLinkOf state of tuple link row

-- the disk that a map was made for is known, and its own map is no earlier one
pub record HasHome (state : State) (of disk : ℕ) : Type 0 where
  pub row : DiskRow
  pub is : slice_get state.disks.rows disk ≡ Some row
  pub newest : of ≤ row.map

-- so many servers, whose incarnations count from 1; no two disks have one name; each map was made for a known disk, over a proper tuple, and
-- has the links that its tuple asks for while a disk has it, as its own or the one that it leaves; and each is found by its map and number
pub record IsUnsettled (servers : ℕ) (state : State) : Type 0 where
  pub many : length state.view.members ≡ servers
  pub members : (n : ℕ) (member : Member) → slice_get state.view.members n ≡ Some member → 1 ≤ last_inc member
  pub fences : AreQueued state
  pub made : state.disks.made ≡ length state.disks.rows
  pub homes : (of disk : ℕ) → disk_of state.maps of ≡ Some disk → HasHome state of disk
  pub rows : (i : ℕ) (row : DiskRow) → slice_get state.disks.rows i ≡ Some row → IsRowAt state.maps i row
  pub names : (i j : ℕ) (one other : DiskRow) → slice_get state.disks.rows i ≡ Some one → slice_get state.disks.rows j ≡ Some other
      → one.name ≡ other.name → i ≡ j
  pub tuples : (of : ℕ) (tuple : List ℕ) → tuple_of state.maps of ≡ Some tuple → is_tuple servers tuple ≡ true
  pub links : (of link : ℕ) (tuple : List ℕ) → tuple_of state.maps of ≡ Some tuple → link < length tuple → owner state of ≢ None
      → HasLinkOf state of tuple link
  pub unlinked : (of link : ℕ) → owner state of ≡ None → link_at state.links of link ≡ None
  pub found : (row : LinkRow) → In row state.links → link_at state.links row.map row.link ≡ Some row

-- a state between entries: none of its fences has all its reports, so the active one waits for somebody
pub record IsSettledState (servers : ℕ) (state : State) : Type 0 where
  pub unsettled : IsUnsettled servers state
  pub open unsettled use {many, members, fences, made, homes, rows, names, tuples, links, unlinked, found}
  pub waits : (fence : Fence) → head state.view.queue ≡ Some fence → fence.waiting ≢ []

-- the later row of a link
pub record HasLaterRow (earlier later : State) (of link : ℕ) (row : LinkRow) : Type 0 where
  pub now : LinkRow
  pub is : link_at later.links of link ≡ Some now
  pub goes_on : GoesOn earlier later row now
  pub open goes_on use *

-- the row of a disk later: with the snapshots that it had and those that were taken since; each cell of a map that it had is as far as it was,
-- or farther; and a map that it left it left before, in the same move
pub record IsLaterDisk (row now : DiskRow) : Type 0 where
  pub id : now.id ≡ row.id
  pub name : now.name ≡ row.name
  pub map : row.map ≤ now.map
  pub stages : (cell : Cell) → cell.map ≤ row.map → stage_of cell row ≤ stage_of cell now
  pub back : (of : ℕ) → of < row.map → leaves of now.moving ≡ true → (now.map ≡ row.map) × (leaves of row.moving ≡ true)
  pub onward : row.epoch ≤ now.epoch
  pub more : List Snapshot
  pub snaps : now.snaps ≡ row.snaps ++ more

pub record HasLaterDisk (later : State) (i : ℕ) (row : DiskRow) : Type 0 where
  pub now : DiskRow
  pub is : slice_get later.disks.rows i ≡ Some now
  pub so : IsLaterDisk row now

-- all cells of the map are retired
abbrev pub IsGone : State → (of : ℕ) → Type 0
IsGone state of = (block : ℕ) → stage_at state (record { map = of; block = block }) ≡ 4

-- disks and maps were added, and of those before snapshots were taken, and regions moved; a link stays between its two servers until its map
-- is retired, and who served it, and has been In all the time, serves it still, and one that is Lost stays so; and an incarnation that was Out
-- stays Out
pub record IsGrown (earlier later : State) : Type 0 where
  pub many : length earlier.disks.rows ≤ length later.disks.rows
  pub rows : (i : ℕ) (row : DiskRow) → slice_get earlier.disks.rows i ≡ Some row → HasLaterDisk later i row
  pub maps : (of : ℕ) (map : MapRow) → slice_get earlier.maps of ≡ Some map → slice_get later.maps of ≡ Some map
  pub links : (of link : ℕ) (row : LinkRow) → link_at earlier.links of link ≡ Some row → HasLaterRow earlier later of link row ⊎ IsGone later of
  pub stages : (cell : Cell) → stage_at earlier cell ≤ stage_at later cell
  pub ages : (n : ℕ) → age_of earlier n ≤ age_of later n
