-- What the state says of a block's cell, in the order of the rules.
use Rattle.std.specs.Prelude.{ℕ, Bool, true, false, not, ◌==◌, ◌&&◌, ◌||◌, nat_le, if◌then◌else◌, List, [], ◌∷◌, length, find, map, slice_get}
use Rattle.std.specs.Prelude.{Option, Some, None, unwrap_or, option_map, option_and_then}
use Rattle.std.specs.List.{range_with_len}
use Rattle.std.specs.Option.{option_map_or}
use Rattle.petal_base.specs.declared.cell.Cell.{Cell}
use Rattle.global_tables.specs.declared.link.LinkRow.{LinkRow}
use Rattle.global_tables.specs.declared.link.LinkState.{LinkState}
use Rattle.global_tables.specs.declared.link.LinkState.TheVariants.{Both, Only, Lost}
use Rattle.global_tables.specs.declared.disk.DiskRow.{DiskRow}
use Rattle.global_tables.specs.declared.disk.Move.{Move}
use Rattle.global_tables.specs.declared.disk.Snapshot.{Snapshot}
use Rattle.global_tables.specs.declared.disk.RegionState.{RegionState}
use Rattle.global_tables.specs.declared.disk.RegionState.TheVariants.{Old, Fenced, New}
use Rattle.global_tables.specs.declared.fence.FenceKind.{FenceKind}
use Rattle.global_tables.specs.declared.fence.FenceKind.TheVariants.{Whole, Region}
use Rattle.global_tables.specs.Region.{link_of, region_of}
use Rattle.global_tables.specs.Map.{tuple_of}
use Rattle.global_tables.specs.Link.{link_at, has_server}
use Rattle.global_tables.specs.Disk.{disk_at, snapshot_named, has_link}
use Rattle.global_tables.specs.View.{head}
use Rattle.spec_state.specs.declared.answer.DiskView.{DiskView}
use Rattle.spec_state.specs.declared.answer.Link.{Link}
use Rattle.spec_state.specs.declared.answer.Hold.{Hold}
use Rattle.spec_state.specs.declared.answer.Hold.TheVariants.{No, Writes, All}
use Rattle.spec_state.specs.State.{State, is_up, leaves, mover}

-- how far a region has moved; `New` without a move
abbrev pub move_region : ℕ → Option Move → RegionState
move_region region None = New
move_region region (Some move) = unwrap_or (slice_get move.regions region) New

-- the same, for a disk that may be unknown
abbrev pub region_at : Option DiskRow → ℕ → RegionState
region_at None region = New
region_at (Some row) region = move_region region row.moving

-- the map is the disk's or the one that it moves from
abbrev pub has_map : ℕ → DiskRow → Bool
has_map of row = row.map == of || leaves of row.moving

-- the disk whose map or old map it is
abbrev pub owner : State → ℕ → Option DiskRow
owner s of = find (has_map of) s.disks.rows

-- a cell of the disk's map is live where its region is not `Old`
abbrev pub live_new : RegionState → Bool
live_new Old = false
live_new Fenced = true
live_new New = true

-- a cell of the old map is live where its region is `Old` or `Fenced`
abbrev pub live_old : RegionState → Bool
live_old Old = true
live_old Fenced = true
live_old New = false

abbrev pub live_under : ℕ → ℕ → DiskRow → Bool
live_under of region row = if row.map == of then live_new (move_region region row.moving) else live_old (move_region region row.moving)

-- the cell is one of those that hold the disk's contents
abbrev pub live : State → Cell → Bool
live s cell = option_map_or (live_under cell.map (region_of cell.block)) (owner s cell.map) false

abbrev pub is_fenced : RegionState → Bool
is_fenced Old = false
is_fenced Fenced = true
is_fenced New = false

-- the cell is under the old map of a move, in the region that is on its way
abbrev pub leaving : State → Cell → Bool
leaving s cell = option_map_or (λ row. is_fenced (move_region (region_of cell.block) row.moving)) (mover s cell.map) false

-- the cell of the map that the disk leaves, from which the entries of a cell of its new map come
abbrev pub source_in : Cell → DiskRow → Option Cell
source_in cell row =
    if row.map == cell.map then option_map (λ (move : Move). record { map = move.old_map; block = cell.block }) row.moving else None

abbrev pub source : State → Cell → Option Cell
source s cell = option_and_then (source_in cell) (owner s cell.map)

-- the cell of the disk's new map to which the entries of a cell of the old one go
abbrev pub target : State → Cell → Option Cell
target s cell = option_map (λ (row : DiskRow). record { map = row.map; block = cell.block }) (mover s cell.map)

abbrev pub comes_under : Cell → DiskRow → Bool
comes_under cell row = row.map == cell.map && is_fenced (move_region (region_of cell.block) row.moving)

-- the cell is under the new map of a move, in the region that is on its way
abbrev pub coming : State → Cell → Bool
coming s cell = option_map_or (comes_under cell) (owner s cell.map) false

-- the region that is on its way
abbrev pub region_on_way : Option Move → Option ℕ
region_on_way None = None
region_on_way (Some move) = find (λ region. is_fenced (move_region region (Some move))) (range_with_len 0 16)

-- the region that is on its way from this map
abbrev pub region_leaving : State → (map : ℕ) → Option ℕ
region_leaving s of = option_and_then (λ (row : DiskRow). region_on_way row.moving) (mover s of)

-- the link of a cell
abbrev pub cell_link : State → Cell → Option LinkRow
cell_link s cell = option_and_then (λ tuple. link_at s.links cell.map (link_of (length tuple) cell.block)) (tuple_of s.maps cell.map)

-- who leads a link: in `Both` the primary, in `Only` the holder if it is In, in `Lost` nobody
abbrev pub state_lead : State → ℕ → LinkState → Option ℕ
state_lead s primary Both = Some primary
state_lead s primary (Only holder whole) = if is_up s holder then Some holder else None
state_lead s primary Lost = None

abbrev pub row_lead : State → LinkRow → Option ℕ
row_lead s row = state_lead s row.primary row.state

-- the lead of a link, whatever its regions
abbrev pub link_lead : State → ℕ → ℕ → Option ℕ
link_lead s of link = option_and_then (row_lead s) (link_at s.links of link)

-- the lead of a cell: none where it is not live, none where it is leaving, else that of its link
abbrev pub lead : State → Cell → Option ℕ
lead s cell =
    if not (live s cell) then None
    else if leaving s cell then None
    else option_and_then (row_lead s) (cell_link s cell)

-- in `Both` the link's two servers have its blocks as they should be, in `Only` the holder
abbrev pub serves : ℕ → LinkRow → LinkState → Bool
serves server row Both = has_server server row
serves server row (Only holder whole) = holder == server
serves server row Lost = false

-- a server may read a live cell where it is In and up to date
abbrev pub readable : State → ℕ → Cell → Bool
readable s server cell = live s cell && is_up s server && option_map_or (λ row. serves server row row.state) (cell_link s cell) false

-- the map is of this disk
abbrev pub is_of : State → ℕ → ℕ → Bool
is_of s disk of = option_map_or (λ row. row.id == disk) (owner s of) false

-- a fence for a snapshot holds new client writes of its disk; one for a region holds new client writes and reads of the
-- region's live cells
abbrev pub holds : State → Cell → FenceKind → Hold
holds s cell (Whole disk name client seq) = if is_of s disk cell.map then Writes else No
holds s cell (Region disk region) = if is_of s disk cell.map && region == region_of cell.block && live s cell then All else No

-- what the active fence holds of a cell
abbrev pub held : State → Cell → Hold
held s cell = option_map_or (λ fence. holds s cell fence.kind) (head s.view.queue) No

-- a disk as its users see it
abbrev pub view_of : DiskRow → DiskView
view_of row = record { disk = row.id; map = row.map; epoch = row.epoch; old_map = option_map (λ move. move.old_map) row.moving }

abbrev pub link_of_row : LinkRow → Link
link_of_row row = record { primary = row.primary; secondary = row.secondary; state = row.state }

-- the epoch of a disk's snapshot
abbrev pub snapshot : State → ℕ → List ℕ → Option ℕ
snapshot s disk name = option_and_then (λ row. option_map (λ snap. snap.epoch) (snapshot_named row.snaps name)) (disk_at s.disks.rows disk)

-- the least of two numbers, of which either may be missing
abbrev pub least : Option ℕ → Option ℕ → Option ℕ
least None b = b
least (Some n) None = Some n
least (Some n) (Some m) = Some (if nat_le n m then n else m)

-- the least epoch of these snapshots not below one
abbrev pub next_epoch : ℕ → List Snapshot → Option ℕ
next_epoch from [] = None
next_epoch from (snap ∷ snaps) = least (if nat_le from snap.epoch then Some snap.epoch else None) (next_epoch from snaps)

abbrev pub next_snapshot : State → ℕ → ℕ → Option ℕ
next_snapshot s disk from = option_and_then (λ row. next_epoch from row.snaps) (disk_at s.disks.rows disk)

-- the region of this old map is `Fenced`, and the link is noted for it
abbrev pub noted_in : ℕ → ℕ → Option Move → Bool
noted_in region link None = false
noted_in region link (Some move) = is_fenced (move_region region (Some move)) && has_link link move.noted

abbrev pub noted : State → ℕ → ℕ → ℕ → Bool
noted s of region link = option_map_or (λ row. noted_in region link row.moving) (mover s of) false

-- the map that a disk moves from
abbrev pub old_map : ℕ → Option Move → ℕ
old_map of None = of
old_map of (Some move) = move.old_map

-- the map under which a request names a block: the old one while the block's region is `Old`, else the disk's
abbrev pub named_map : ℕ → Option Move → RegionState → ℕ
named_map of move Old = old_map of move
named_map of move Fenced = of
named_map of move New = of

abbrev pub named_cell : DiskRow → ℕ → Cell
named_cell row block = record { map = named_map row.map row.moving (move_region (region_of block) row.moving); block = block }

-- the same for a read whose client was told that the new map has nothing: it asks the old one while the region is on its way
abbrev pub read_map : ℕ → Option Move → RegionState → ℕ
read_map of move Old = old_map of move
read_map of move Fenced = old_map of move
read_map of move New = of

abbrev pub read_cell : DiskRow → ℕ → Cell
read_cell row block = record { map = read_map row.map row.moving (move_region (region_of block) row.moving); block = block }

-- the map under which a disk as its users see it has a block, by how far the block's region is; of one that is on its way the new one,
-- and the old one for a read that was told that the new one has nothing
abbrev pub map_asked : DiskView → (told : Bool) → RegionState → ℕ
map_asked disk told Old = unwrap_or disk.old_map disk.map
map_asked disk false Fenced = disk.map
map_asked disk true Fenced = unwrap_or disk.old_map disk.map
map_asked disk told New = disk.map

abbrev pub cell_asked : State → DiskView → ℕ → (told : Bool) → Cell
cell_asked s disk block told = record { map = map_asked disk told (region_at (disk_at s.disks.rows disk.disk) (region_of block)); block = block }
