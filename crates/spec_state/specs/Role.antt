-- What a server is to a cell.
use Rattle.std.specs.Prelude.{ℕ, Bool, false, ◌==◌, if◌then◌else◌, Option, Some, None, is_some, option_map, option_and_then}
use Rattle.std.specs.Option.{option_map_or}
use Rattle.petal_base.specs.declared.cell.Cell.{Cell}
use Rattle.global_tables.specs.declared.link.LinkRow.{LinkRow}
use Rattle.global_tables.specs.declared.link.LinkState.{LinkState}
use Rattle.global_tables.specs.declared.link.LinkState.TheVariants.{Both, Only, Lost}
use Rattle.spec_state.specs.State.{State}
use Rattle.spec_state.specs.CellState.{cell_link, row_lead, live, lead}

-- there is one, and it is this server
abbrev pub is_the : Option ℕ → ℕ → Bool
is_the found server = option_map_or (λ n. n == server) found false

-- the server takes the cell's writes
abbrev pub is_lead : State → ℕ → Cell → Bool
is_lead state server cell = is_the (lead state cell) server

-- the server leads the cell's link, whether or not its region is on its way
abbrev pub leads_link : State → ℕ → Cell → Bool
leads_link state server cell = is_the (option_and_then (row_lead state) (cell_link state cell)) server

abbrev pub row_in_both : LinkRow → LinkState → Option LinkRow
row_in_both row Both = Some row
row_in_both row (Only holder whole) = None
row_in_both row Lost = None

-- the link of a live cell, where both of its servers keep the cell's copies
abbrev pub both : State → Cell → Option LinkRow
both state cell = if live state cell then option_and_then (λ row. row_in_both row row.state) (cell_link state cell) else None

-- the cell's link has both of its servers, whether or not its region is on its way
abbrev pub in_both : State → Cell → Bool
in_both state cell = is_some (option_and_then (λ row. row_in_both row row.state) (cell_link state cell))

-- of a cell in Both, the server that puts first, and the one that follows
abbrev pub first : State → Cell → Option ℕ
first state cell = option_map (λ row. row.primary) (both state cell)

abbrev pub second : State → Cell → Option ℕ
second state cell = option_map (λ row. row.secondary) (both state cell)

abbrev pub is_second : State → ℕ → Cell → Bool
is_second state server cell = is_the (second state cell) server
