-- The links of live maps, and what joins, leaves and moves do to them.
use Rattle.std.specs.Prelude.{ℕ, ◌+◌, ◌%◌, Bool, true, false, not, ◌==◌, ◌&&◌, ◌||◌, if◌then◌else◌, List, map, filter, find}
use Rattle.std.specs.Prelude.{length, slice_get, slice_index, Option, unwrap_or}
use Rattle.std.specs.List.{range_with_len}
use Rattle.global_tables.specs.declared.link.LinkRow.{LinkRow}
use Rattle.global_tables.specs.declared.link.LinkState.{LinkState}
use Rattle.global_tables.specs.declared.link.LinkState.TheVariants.{Both, Only, Lost}

-- the row is that link of that map
abbrev pub is_link : ℕ → ℕ → LinkRow → Bool
is_link of link row = row.map == of && row.link == link

-- the link of a live map
abbrev pub link_at : List LinkRow → ℕ → ℕ → Option LinkRow
link_at rows of link = find (is_link of link) rows

-- the server is one of the link's two
abbrev pub has_server : ℕ → LinkRow → Bool
has_server server row = row.primary == server || row.secondary == server

-- the other one of the link's two servers
abbrev pub other_of : ℕ → LinkRow → ℕ
other_of server row = if row.primary == server then row.secondary else row.primary

-- who serves a new link, by whether its primary and its secondary are In
abbrev pub new_state : Bool → Bool → ℕ → ℕ → LinkState
new_state true true primary secondary = Both
new_state true false primary secondary = Only primary false
new_state false true primary secondary = Only secondary false
new_state false false primary secondary = Only primary false

-- whether the list of the servers that are In says so of this one
abbrev pub is_up : List Bool → ℕ → Bool
is_up up server = unwrap_or (slice_get up server) false

-- a link between two neighbours of a tuple
abbrev pub row_between : ℕ → List Bool → ℕ → ℕ → ℕ → LinkRow
row_between of up link primary secondary = record {
  map = of;
  link = link;
  primary = primary;
  secondary = secondary;
  state = new_state (is_up up primary) (is_up up secondary) primary secondary;
}

-- link i of a new map: from server i of its tuple to the next one, after the last to the first
abbrev pub new_row : ℕ → List ℕ → List Bool → ℕ → LinkRow
new_row of tuple up i = row_between of up i (slice_index tuple i) (slice_index tuple ((i + 1) % length tuple))

-- all links of a new map
abbrev pub new_rows : ℕ → List ℕ → List Bool → List LinkRow
new_rows of tuple up = map (new_row of tuple up) (range_with_len 0 (length tuple))

-- a server of the link has left: of two that were up to date the other holds the link alone
abbrev pub left_state : ℕ → LinkState → LinkState
left_state other Both = Only other false
left_state other (Only holder whole) = Only holder whole
left_state other Lost = Lost

abbrev pub row_left : ℕ → LinkRow → LinkRow
row_left server row = if has_server server row then record row { state = left_state (other_of server row) row.state } else row

-- the links after a server left
abbrev pub left : List LinkRow → ℕ → List LinkRow
left rows server = map (row_left server) rows

-- a server came back with nothing: what it alone held is lost, and where the other holds the link all has to be copied
abbrev pub blanked_state : ℕ → Bool → LinkState → LinkState
blanked_state server has Both = Both
blanked_state server has (Only holder whole) = if holder == server then Lost else Only holder (has || whole)
blanked_state server has Lost = Lost

abbrev pub row_blanked : ℕ → LinkRow → LinkRow
row_blanked server row = record row { state = blanked_state server (has_server server row) row.state }

-- the links after a server joined; one that kept its blocks changes none
abbrev pub joined : List LinkRow → ℕ → Bool → List LinkRow
joined rows server true = map (row_blanked server) rows
joined rows server false = rows

abbrev pub row_caught : ℕ → ℕ → LinkRow → LinkRow
row_caught of link row = if is_link of link row then record row { state = Both } else row

-- the links after both copies of one are up to date again
abbrev pub caught : List LinkRow → ℕ → ℕ → List LinkRow
caught rows of link = map (row_caught of link) rows

-- the links after a map is retired
abbrev pub dropped : List LinkRow → ℕ → List LinkRow
dropped rows of = filter (λ row. not (row.map == of)) rows
