-- How far a cell is: its map is not its disk's yet, or it holds the disk's contents, or these have left it. A cell only goes forward.
use Rattle.law_state.specs.Imports.{Cell, DiskRow, Fenced, New, Old, RegionState, State, cell_link, coming, disk_at, disk_of, has_map, is_lead, leads_link}
use Rattle.law_state.specs.Imports.{leaving, live, move_region, owner, region_of, source, target, tuple_of}
use Rattle.std.specs.Prelude.{if◌then◌else◌, ◌+◌, ◌==◌, ◌≡◌, ◌≤◌, None, Option, Some, is_some, nat_le, option_and_then, true, ℕ}
use Rattle.std.specs.Option.{option_map_or}

-- a cell of the disk's map: its region is still at the old one, on its way, or there
abbrev pub new_stage : RegionState → ℕ
new_stage Old = 0
new_stage Fenced = 1
new_stage New = 2

-- a cell of the map that the disk leaves: there, on its way, or gone
abbrev pub old_stage : RegionState → ℕ
old_stage region = new_stage region + 2

abbrev pub stage_under : Cell → DiskRow → ℕ
stage_under cell row =
    if row.map == cell.map then new_stage (move_region (region_of cell.block) row.moving)
    else old_stage (move_region (region_of cell.block) row.moving)

-- by the row of the disk for which the cell's map was made: a map that the disk has no more is retired
abbrev pub stage_of : Cell → DiskRow → ℕ
stage_of cell row = if has_map cell.map row then stage_under cell row else 4

-- a map that no disk has is not made yet, or retired
abbrev pub stage_by : State → Cell → Option DiskRow → ℕ
stage_by state cell None = if is_some (tuple_of state.maps cell.map) then 4 else 0
stage_by state cell (Some row) = stage_under cell row

-- 0 not live yet, 1 coming, 2 live, 3 leaving, 4 retired
abbrev pub stage_at : State → Cell → ℕ
stage_at state cell = stage_by state cell (owner state cell.map)

-- the epoch of the disk of the cell's map, also where the map is retired; 0 without one
abbrev pub epoch_at : State → Cell → ℕ
epoch_at state cell = option_map_or (λ (row : DiskRow). row.epoch) (option_and_then (disk_at state.disks.rows) (disk_of state.maps cell.map)) 0

-- the cell's map is retired, and its links are gone
abbrev pub IsRetired : State → Cell → Type 0
IsRetired state cell = (cell_link state cell ≡ None) × (stage_at state cell ≡ 4)

-- how often a fence that held the cell's writes has taken effect since it is live: the epoch of its disk, and one more once it is leaving
abbrev pub era_by : (epoch stage : ℕ) → ℕ
era_by epoch stage = epoch + (if nat_le 3 stage then 1 else 0)

abbrev pub era_at : State → Cell → ℕ
era_at state cell = era_by (epoch_at state cell) (stage_at state cell)

-- the cell of the other map of a move
pub record HasTwin (state : State) (cell other : Cell) (stage : ℕ) : Type 0 where
  pub block : other.block ≡ cell.block
  pub stage_is : stage_at state other ≡ stage

-- what a state says of a cell, its stage says
pub record HasStage (state : State) (cell : Cell) : Type 0 where
  pub most : stage_at state cell ≤ 4
  pub lives : live state cell ≡ true → (1 ≤ stage_at state cell) × (stage_at state cell ≤ 3)
  pub alive : 1 ≤ stage_at state cell → stage_at state cell ≤ 3 → live state cell ≡ true
  pub leaves : leaving state cell ≡ true → stage_at state cell ≡ 3
  pub left : stage_at state cell ≡ 3 → leaving state cell ≡ true
  pub comes : coming state cell ≡ true → stage_at state cell ≡ 1
  pub came : stage_at state cell ≡ 1 → coming state cell ≡ true
  pub leads : (n : ℕ) → is_lead state n cell ≡ true → (leads_link state n cell ≡ true) × (1 ≤ stage_at state cell) × (stage_at state cell ≤ 2)
  pub led : (n : ℕ) → leads_link state n cell ≡ true → 1 ≤ stage_at state cell → stage_at state cell ≤ 2 → is_lead state n cell ≡ true
  pub sources : stage_at state cell ≡ 1
      → (old : Cell) × (source state cell ≡ Some old) × (target state old ≡ Some cell) × HasTwin state cell old 3
  pub targets : stage_at state cell ≡ 3
      → (new : Cell) × (target state cell ≡ Some new) × (source state new ≡ Some cell) × HasTwin state cell new 1
