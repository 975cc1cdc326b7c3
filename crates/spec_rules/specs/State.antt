-- What servers and clients ask of the global state. Rules speak of it through these readers alone.
use Rattle.std.specs.Prelude.{ℕ, ◌&&◌, Bool, false, List, length, if◌then◌else◌, Option, Some, None, option_map, option_and_then}
use Rattle.std.specs.Option.{option_map_or}
use Rattle.std.specs.Ordering.{nat_cmp, ordering_then}
use Rattle.std.specs.declared.cmp.Ordering.{Ordering}
use Rattle.petal_base.specs.declared.cell.Cell.{Cell}
use Rattle.global_tables.specs.declared.link.LinkRow.{LinkRow}
use Rattle.global_tables.specs.declared.link.LinkState.{LinkState}
use Rattle.global_tables.specs.declared.link.LinkState.TheVariants.{Both, Only, Lost}
use Rattle.global_tables.specs.Disk.{named}
use Rattle.global_tables.specs.Link.{has_server, is_link, link_at, other_of}
use Rattle.petal_msg.specs.declared.copying.LinkId.{LinkId}
use Rattle.spec_state.specs.Command.{is_alone}
use Rattle.spec_state.specs.State.{is_up, is_up_as}
use Rattle.spec_state.specs.CellState.{cell_link, view_of}
use Rattle.spec_state.specs.declared.answer.DiskView.{DiskView}
pub use Rattle.spec_state.specs.State.{State}
pub use Rattle.spec_state.specs.CellState.{live, leaving, coming, lead, readable, held, snapshot}
pub use Rattle.spec_state.specs.Role.{is_the, is_lead, leads_link, row_in_both, both, in_both, first, second, is_second}
pub use Rattle.spec_state.specs.declared.answer.Hold.{Hold}

-- how many servers there are
abbrev pub servers_of : State → ℕ
servers_of state = length state.view.members

-- the server is In with this incarnation
abbrev pub is_in : State → ℕ → ℕ → Bool
is_in state server inc = is_up_as state server inc

-- the disk of this name
abbrev pub find : State → List ℕ → Option DiskView
find state name = option_map view_of (named state.disks.rows name)

-- in Both the secondary, since it has a write last; in Only the holder
abbrev pub row_authority : LinkRow → LinkState → Option ℕ
row_authority row Both = Some row.secondary
row_authority row (Only holder whole) = Some holder
row_authority row Lost = None

-- the server whose copy of a live cell counts
abbrev pub authority : State → Cell → Option ℕ
authority state cell = if live state cell then option_and_then (λ row. row_authority row row.state) (cell_link state cell) else None

-- the two servers of a cell's link, whoever serves it
abbrev pub primary : State → Cell → Option ℕ
primary state cell = option_map (λ row. row.primary) (cell_link state cell)

abbrev pub secondary : State → Cell → Option ℕ
secondary state cell = option_map (λ row. row.secondary) (cell_link state cell)

-- ### Links

-- a link's name
abbrev pub id_of : LinkRow → LinkId
id_of row = record { map = row.map; link = row.link }

-- links stand by map and then by number
abbrev pub link_cmp : LinkId → LinkId → Ordering
link_cmp a b = ordering_then (nat_cmp a.map b.map) (nat_cmp a.link b.link)

abbrev pub link_named : State → LinkId → Option LinkRow
link_named state id = link_at state.links id.map id.link

-- the cell lies on the link
abbrev pub is_on : State → LinkRow → Cell → Bool
is_on state row cell = option_map_or (is_link row.map row.link) (cell_link state cell) false

-- ### Links that one server holds alone

-- for the holder, the other server, where that is In
abbrev pub other_in : State → ℕ → LinkRow → Option ℕ
other_in state me row = if is_alone me row.state && is_up state (other_of me row) then Some (other_of me row) else None

-- for the other server, the holder
abbrev pub holder_of : ℕ → LinkRow → Option ℕ
holder_of me row = if has_server me row && is_alone (other_of me row) row.state then Some (other_of me row) else None

-- the other server came back with nothing, so that all that the holder has is to be copied
abbrev pub needs_full_copy : LinkState → Bool
needs_full_copy Both = false
needs_full_copy (Only holder whole) = whole
needs_full_copy Lost = false

-- the server holds the cell's link alone
abbrev pub is_alone_on : State → ℕ → Cell → Bool
is_alone_on state server cell = option_map_or (λ row. is_alone server row.state) (cell_link state cell) false
