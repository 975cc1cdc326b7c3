-- What the disks hold: the entries of each block's authority, in the state that was chosen last, by where the block's region has its home: at
-- one map, or between the old and the new one. A server that is blanked counts as it was until its Join tells of it; where nobody's copy
-- counts nothing is said.
use Rattle.std.specs.Prelude.{ℕ, ◌&&◌, ◌||◌, Bool, false, List, Option, Some, None, is_some, option_and_then}
use Rattle.petal_base.specs.Block.{zero_block}
use Rattle.petal_base.specs.declared.cell.Cell.{Cell}
use Rattle.global_tables.specs.Disk.{disk_at}
use Rattle.global_tables.specs.Region.{region_of}
use Rattle.global_tables.specs.declared.disk.DiskRow.{DiskRow}
use Rattle.global_tables.specs.declared.disk.RegionState.{RegionState}
use Rattle.global_tables.specs.declared.disk.RegionState.TheVariants.{Old, Fenced, New}
use Rattle.spec_state.specs.CellState.{move_region, old_map}
use Rattle.spec_rules.specs.State.{State, authority}
use Rattle.spec_rules.specs.Store.{Stored, chain_in, entry_at, bytes_of}
use Rattle.spec_rules.specs.Server.{Server}
use Rattle.spec_rules.specs.World.{Setting, World, chosen_state, counted}

-- the cell of a disk's block under its map, and under the map that it leaves
abbrev pub cell_of_block : DiskRow → ℕ → Cell
cell_of_block row block = record { map = row.map; block = block }

abbrev pub old_cell : DiskRow → ℕ → Cell
old_cell row block = record { map = old_map row.map row.moving; block = block }

-- where a block has its home
abbrev pub home_of : DiskRow → ℕ → RegionState
home_of row block = move_region (region_of block) row.moving

-- a server's entry of the greatest epoch not above this one
abbrev pub entry_held : Server → Cell → ℕ → Option Stored
entry_held server cell epoch = entry_at (chain_in server.own.store.chains cell) epoch

abbrev pub entry_by : World → Cell → ℕ → Option ℕ → Option Stored
entry_by w cell epoch None = None
entry_by w cell epoch (Some server) = entry_held (w.servers server) cell epoch

-- that of the server whose copy of the cell counts
abbrev pub entry_of : State → World → Cell → ℕ → Option Stored
entry_of state w cell epoch = entry_by w cell epoch (authority state cell)

-- that of the old map, as it was when the region's fence took effect
abbrev pub entry_before : World → Cell → ℕ → Option Stored
entry_before w cell epoch = option_and_then (λ chain. entry_at chain epoch) (w.frozen cell)

abbrev pub first_entry : Option Stored → Option Stored → Option Stored
first_entry None other = other
first_entry (Some entry) other = Some entry

-- a block's entry, by where it has its home: between two maps that of the new one or, where that has none, that of the old one
abbrev pub entry_at_home : State → World → DiskRow → (epoch block : ℕ) → RegionState → Option Stored
entry_at_home state w row epoch block Old = entry_of state w (old_cell row block) epoch
entry_at_home state w row epoch block Fenced =
    first_entry (entry_of state w (cell_of_block row block) epoch) (entry_before w (old_cell row block) epoch)
entry_at_home state w row epoch block New = entry_of state w (cell_of_block row block) epoch

-- the content of a disk's block at an epoch
abbrev pub content_in : State → World → DiskRow → (epoch block : ℕ) → List ℕ
content_in state w row epoch block = bytes_of (entry_at_home state w row epoch block (home_of row block))

-- the same, for a disk that may be unknown
abbrev pub content_where : State → World → Option DiskRow → (epoch block : ℕ) → List ℕ
content_where state w None epoch block = zero_block
content_where state w (Some row) epoch block = content_in state w row epoch block

-- some server's copy of the block counts: its link is not Lost and, where the new map has no entry of a block that is between two maps, what
-- the old one had is known
abbrev pub has_at_home : State → World → DiskRow → (epoch block : ℕ) → RegionState → Bool
has_at_home state w row epoch block Old = is_some (authority state (old_cell row block))
has_at_home state w row epoch block Fenced =
    is_some (authority state (cell_of_block row block))
    && (is_some (entry_of state w (cell_of_block row block) epoch) || is_some (w.frozen (old_cell row block)))
has_at_home state w row epoch block New = is_some (authority state (cell_of_block row block))

abbrev pub has_content : State → World → DiskRow → (epoch block : ℕ) → Bool
has_content state w row epoch block = has_at_home state w row epoch block (home_of row block)

-- the same, for a disk that may be unknown
abbrev pub has_content_where : State → World → Option DiskRow → (epoch block : ℕ) → Bool
has_content_where state w None epoch block = false
has_content_where state w (Some row) epoch block = has_content state w row epoch block

-- the same, of the disk of this number
abbrev pub has_content_at : Setting → World → (disk epoch block : ℕ) → Bool
has_content_at setting w disk epoch block =
    let state = chosen_state setting w in
    has_content_where state (counted setting w) (disk_at state.disks.rows disk) epoch block

-- the content of a block of the disk of this number
abbrev pub content_at : Setting → World → (disk epoch block : ℕ) → List ℕ
content_at setting w disk epoch block =
    let state = chosen_state setting w in
    content_where state (counted setting w) (disk_at state.disks.rows disk) epoch block
