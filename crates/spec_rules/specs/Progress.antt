-- How far copies are: of the links that this server holds alone, of the cells that it copies, and of those that are copied to it.
use Rattle.std.specs.Prelude.{Bool, false, Option, None, unwrap_or}
use Rattle.std.specs.Option.{option_map_or}
use Rattle.global_tables.specs.declared.link.LinkRow.{LinkRow}
use Rattle.petal_base.specs.declared.cell.Cell.{Cell}
use Rattle.petal_msg.specs.declared.copying.Copying.{Copying}
use Rattle.petal_msg.specs.declared.copying.LastCopy.{LastCopy}
use Rattle.petal_msg.specs.declared.copying.Progress.{Progress}
use Rattle.spec_state.specs.CellState.{cell_link}
use Rattle.petal_table.specs.Table.{at, put, without}
use Rattle.spec_rules.specs.Server.{PairState}
use Rattle.spec_rules.specs.State.{State, id_of, link_cmp}
use Rattle.spec_rules.specs.Store.{cell_cmp}

-- ### Links

-- nothing was asked for
abbrev pub no_progress : Progress
no_progress = record { after = None; paged = false; copied = None; caught = false }

-- how far the holder is with the link
abbrev pub progress_on : PairState → LinkRow → Progress
progress_on own row = unwrap_or (at link_cmp own.copies.progress (id_of row)) no_progress

abbrev pub with_progress : PairState → LinkRow → Progress → PairState
with_progress own row progress = record own { copies = record own.copies { progress = put link_cmp own.copies.progress (id_of row) progress } }

-- it has started a ballot for the Caught of the cell's link
abbrev pub has_proposed : State → PairState → Cell → Bool
has_proposed state own cell = option_map_or (λ row. (progress_on own row).caught) (cell_link state cell) false

-- ### Cells

-- the copy that is under way on the cell
abbrev pub copying_on : PairState → Cell → Option Copying
copying_on own cell = at cell_cmp own.copies.pending cell

abbrev pub with_copying : PairState → Cell → Copying → PairState
with_copying own cell copy = record own { copies = record own.copies { pending = put cell_cmp own.copies.pending cell copy } }

abbrev pub without_copying : PairState → Cell → PairState
without_copying own cell = record own { copies = record own.copies { pending = without cell_cmp own.copies.pending cell } }

-- the last copy of the cell to this server
abbrev pub last_copy : PairState → Cell → Option LastCopy
last_copy own cell = at cell_cmp own.copies.last cell

abbrev pub with_last_copy : PairState → Cell → LastCopy → PairState
with_last_copy own cell copy = record own { copies = record own.copies { last = put cell_cmp own.copies.last cell copy } }

-- whether the copy that ended last found no slot
abbrev pub with_full : PairState → Bool → PairState
with_full own full = record own { copies = record own.copies { full = full } }
