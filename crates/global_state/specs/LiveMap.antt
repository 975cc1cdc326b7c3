-- Maps of which each cell is live.
use Rattle.std.specs.Prelude.{ℕ, Bool, false, ◌==◌, ◌&&◌}
use Rattle.std.specs.Option.{is_none, option_map_or}
use Rattle.global_tables.specs.declared.disk.DiskRow.{DiskRow}
use Rattle.spec_state.specs.State.{State}
use Rattle.spec_state.specs.CellState.{owner}

-- the map is the disk's, which is not on the move
abbrev pub is_still : ℕ → DiskRow → Bool
is_still of row = row.map == of && is_none row.moving

-- the map is that of a disk that is not on the move
abbrev pub is_live_map : State → ℕ → Bool
is_live_map s of = option_map_or (is_still of) (owner s of) false
