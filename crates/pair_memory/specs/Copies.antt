-- What is remembered of copies, change by change.
use Rattle.std.specs.Prelude.{map, unwrap_or, Bool, false, Option, None, Some}
use Rattle.std.specs.Option.{option_map_or}
use Rattle.petal_base.specs.declared.cell.Cell.{Cell}
use Rattle.petal_msg.specs.declared.copying.Copying.{Copying}
use Rattle.petal_msg.specs.declared.copying.LastCopy.{LastCopy}
use Rattle.petal_msg.specs.declared.copying.LinkId.{LinkId}
use Rattle.petal_msg.specs.declared.copying.Progress.{Progress}
use Rattle.petal_table.specs.Table.{Table, at, put, without}
use Rattle.spec_state.specs.CellState.{cell_link}
use Rattle.spec_rules.specs.Progress.{no_progress}
use Rattle.spec_rules.specs.Server.{Copies}
use Rattle.spec_rules.specs.State.{State, id_of, link_cmp}
use Rattle.spec_rules.specs.Store.{cell_cmp}
use Rattle.pair_memory.specs.declared.links.LinkKey.{LinkKey}

-- ### Links as keys

abbrev pub key_of : LinkId → LinkKey
key_of id = record { map = id.map; link = id.link }

abbrev pub id_of_key : LinkKey → LinkId
id_of_key key = record { map = key.map; link = key.link }

-- the rows with the links' names
abbrev pub by_link : {X : Type 0} → Table LinkKey X → Table LinkId X
by_link rows = map (λ row. (id_of_key row.0, row.1)) rows

-- ### Lookups

-- it has started a ballot for the Caught of the cell's link
abbrev pub has_proposed_in : State → Copies → Cell → Bool
has_proposed_in state copies cell =
    option_map_or (λ row. (unwrap_or (at link_cmp copies.progress (id_of row)) no_progress).caught) (cell_link state cell) false

-- ### Changes

abbrev pub with_progress : Copies → LinkId → Progress → Copies
with_progress copies id progress = record copies { progress = put link_cmp copies.progress id progress }

-- the link's row as it was
abbrev pub restored : Copies → LinkId → Option Progress → Copies
restored copies id None = record copies { progress = without link_cmp copies.progress id }
restored copies id (Some before) = with_progress copies id before

abbrev pub with_copying : Copies → Cell → Copying → Copies
with_copying copies cell copy = record copies { pending = put cell_cmp copies.pending cell copy }

abbrev pub without_copying : Copies → Cell → Copies
without_copying copies cell = record copies { pending = without cell_cmp copies.pending cell }

abbrev pub with_last_copy : Copies → Cell → LastCopy → Copies
with_last_copy copies cell copy = record copies { last = put cell_cmp copies.last cell copy }

abbrev pub with_full : Copies → Bool → Copies
with_full copies full = record copies { full = full }
