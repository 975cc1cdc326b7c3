-- The places of a link: how many entries have changed it, or put one of its two servers In or Out. What two servers of a link
-- tell each other of an operation belongs to one place of their link.
use Rattle.std.specs.Prelude.{ℕ, ◌+◌, ◌&&◌, Bool, false, List, [], ◌∷◌, if◌then◌else◌, slice_get}
use Rattle.std.specs.Option.{option_map_or}
use Rattle.petal_base.specs.declared.cell.Cell.{Cell}
use Rattle.global_tables.specs.Link.{has_server, is_link, link_at}
use Rattle.global_tables.specs.declared.link.LinkRow.{LinkRow}
use Rattle.petal_command.specs.declared.command.Command.{Command}
use Rattle.petal_command.specs.declared.command.Command.TheVariants.{Join, Leave, Caught}
use Rattle.spec_state.specs.CellState.{cell_link}
use Rattle.spec_state.specs.Command.{after, may_catch, may_join}
use Rattle.spec_state.specs.State.{State, is_up_as}

-- the entry changes the link, or makes one of its two servers In or Out
abbrev pub touches : State → Command → LinkRow → Bool
touches state (Join server inc blank) row = may_join (slice_get state.view.members server) inc && has_server server row
touches state (Leave server inc) row = is_up_as state server inc && has_server server row
touches state (Caught map link holder holder_inc other other_inc) row =
    is_link map link row && may_catch holder other (link_at state.links map link) && is_up_as state holder holder_inc && is_up_as state other other_inc
touches state _ row = false

-- the entry touches the cell's link
abbrev pub touches_cell : State → Command → Cell → Bool
touches_cell state entry cell = option_map_or (touches state entry) (cell_link state cell) false

-- how many of the entries that follow on a state touch the link
abbrev pub places_from : State → List Command → LinkRow → ℕ
places_from state [] row = 0
places_from state (entry ∷ entries) row =
    if touches state entry row then places_from (after state entry) entries row + 1 else places_from (after state entry) entries row
