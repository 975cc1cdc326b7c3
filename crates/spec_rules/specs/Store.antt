-- What a server keeps of blocks on its data device.
use Rattle.std.specs.Prelude.{Bool, List, None, Option, Some, [], false, fold, if◌then◌else◌, length, map, max, nat_eq, nat_le, sum_by, true}
use Rattle.std.specs.Prelude.{unwrap_or, ℕ, ◌&&◌, ◌+◌, ◌-◌, ◌==◌, ◌∷◌}
use Rattle.std.specs.Cmp.Lexicographic.{pointwise}
use Rattle.std.specs.Option.{option_map_or}
use Rattle.std.specs.declared.cmp.Ordering.{Ordering}
use Rattle.std.specs.Ordering.{nat_cmp, ordering_then}
use Rattle.busy_marks.specs.Marks.{has_mark, with_mark, without_mark}
use Rattle.busy_marks.specs.declared.marks.Mark.{Mark}
use Rattle.busy_marks.specs.declared.marks.MarkKind.{MarkKind}
use Rattle.busy_marks.specs.declared.marks.MarkKind.TheVariants.{Busy, Stale}
use Rattle.client_rows.specs.declared.row.Row.{Row}
use Rattle.client_rows.specs.Rows.{rows_after}
use Rattle.petal_base.specs.declared.cell.Cell.{Cell}
use Rattle.petal_base.specs.declared.cell.Key.{Key}
use Rattle.petal_base.specs.Block.{zero_block}
use Rattle.petal_base.specs.Cells.{cell_of}
use Rattle.petal_base.specs.Origins.{Named}
use Rattle.petal_table.specs.Table.{Table, at, put, without}

-- an entry: a block's bytes, and how often its cell had been put
pub record Stored : Type 0 where
  pub version : ℕ
  pub bytes : List ℕ

-- a cell's entries by rising epoch
abbrev pub Chain : Type 0
Chain = Table ℕ Stored

-- the slots of the device, the chains of its cells, how many slots are set apart for puts to come, the marks, the rows, and whether
-- the store was formatted to be filled by others and is not yet so
pub record Store : Type 0 where
  pub slots : ℕ
  pub chains : Table Cell Chain
  pub tickets : ℕ
  pub marks : List Mark
  pub rows : List Row
  pub fresh : Bool

-- cells stand by map and then by block
abbrev pub cell_cmp : Cell → Cell → Ordering
cell_cmp a b = ordering_then (nat_cmp a.map b.map) (nat_cmp a.block b.block)

-- a device on which nothing was put, and that waits for nobody to fill it
abbrev pub empty_store : ℕ → Store
empty_store slots = record { slots = slots; chains = []; tickets = 0; marks = []; rows = []; fresh = false }

-- a blank device, which is to be filled by others
abbrev pub blank_store : ℕ → Store
blank_store slots = record (empty_store slots) { fresh = true }

-- the device waits for nobody any more
abbrev pub settled : Store → Store
settled store = record store { fresh = false }

-- a cell's entries
abbrev pub chain_in : Table Cell Chain → Cell → Chain
chain_in chains cell = unwrap_or (at cell_cmp chains cell) []

abbrev pub or_else : Option Stored → Stored → Stored
or_else None other = other
or_else (Some entry) other = entry

-- the entry of the greatest epoch not above this one
abbrev pub entry_at : Chain → ℕ → Option Stored
entry_at [] epoch = None
entry_at (row ∷ later) epoch = if nat_le row.0 epoch then Some (or_else (entry_at later epoch) row.1) else None

-- an entry's bytes, or zeros where there is none
abbrev pub bytes_of : Option Stored → List ℕ
bytes_of None = zero_block
bytes_of (Some entry) = entry.bytes

-- the greatest version of a chain, 0 without one
abbrev pub version_of : Chain → ℕ
version_of [] = 0
version_of (row ∷ later) = max row.1.version (version_of later)

-- the greatest version of all chains
abbrev pub top_of : Table Cell Chain → ℕ
top_of [] = 0
top_of (row ∷ later) = max (version_of row.1) (top_of later)

-- how many entries there are
abbrev pub entries_of : Table Cell Chain → ℕ
entries_of chains = sum_by (λ row. length row.1) chains

-- how many slots are free: neither in use nor set apart
abbrev pub free_of : Store → ℕ
free_of store = store.slots - entries_of store.chains - store.tickets

-- two entries are the same
abbrev pub same_stored : Stored → Stored → Bool
same_stored a b = (a.version == b.version) && pointwise nat_eq a.bytes b.bytes

-- this very entry stands at this key
abbrev pub has_stored : Store → Key → Stored → Bool
has_stored store key entry = option_map_or (same_stored entry) (at nat_cmp (chain_in store.chains (cell_of key)) key.epoch) false

-- the chains with this entry at this key
abbrev pub chains_with : Table Cell Chain → Key → Stored → Table Cell Chain
chains_with chains key entry = put cell_cmp chains (cell_of key) (put nat_cmp (chain_in chains (cell_of key)) key.epoch entry)

-- a slot is set apart
abbrev pub with_ticket : Store → Store
with_ticket store = record store { tickets = store.tickets + 1 }

-- a slot that was set apart is free again
abbrev pub without_ticket : Store → Store
without_ticket store = record store { tickets = store.tickets - 1 }

-- an entry is put into a slot that was set apart
abbrev pub with_entry : Store → Key → Stored → Store
with_entry store key entry = record store { chains = chains_with store.chains key entry; tickets = store.tickets - 1 }

-- the number of a client's write is kept in the row of its map, link and client, where a put is for one
abbrev pub with_row_of : Store → (map : ℕ) → Option Named → Store
with_row_of store map origin = record store { rows = rows_after store.rows map origin }

-- an entry is put, for a client's write if it is for one
abbrev pub with_put : Store → Key → Stored → Option Named → Store
with_put store key entry origin = with_row_of (with_entry store key entry) key.map origin

-- the chains with this chain at the cell; a cell without entries has none
abbrev pub chains_at : Table Cell Chain → Cell → Chain → Table Cell Chain
chains_at chains cell [] = without cell_cmp chains cell
chains_at chains cell (row ∷ later) = put cell_cmp chains cell (row ∷ later)

-- an entry is dropped
abbrev pub without_entry : Store → Key → Store
without_entry store key = record store { chains = chains_at store.chains (cell_of key) (without nat_cmp (chain_in store.chains (cell_of key)) key.epoch) }

-- the epochs of a chain, rising
abbrev pub epochs_of : Chain → List ℕ
epochs_of chain = map (λ row. row.0) chain

-- ### Marks

-- the mark of this kind on the cell
abbrev pub mark_on : MarkKind → Cell → Mark
mark_on kind cell = record { kind = kind; cell = cell }

-- the cell has a mark of this kind
abbrev pub is_marked : Store → MarkKind → Cell → Bool
is_marked store kind cell = has_mark (mark_on kind cell) store.marks

-- the mark to take away first: busy before stale
abbrev pub mark_left : Store → Cell → Option MarkKind
mark_left store cell =
    if is_marked store Busy cell then Some Busy
    else if is_marked store Stale cell then Some Stale
    else None

-- the cell is marked
abbrev pub with_mark_on : Store → MarkKind → Cell → Store
with_mark_on store kind cell = record store { marks = with_mark store.marks (mark_on kind cell) }

-- the cell's mark is gone
abbrev pub without_mark_on : Store → MarkKind → Cell → Store
without_mark_on store kind cell = record store { marks = without_mark store.marks (mark_on kind cell) }

-- the marks of this kind on these cells are gone
abbrev pub unmark_all_on : Store → MarkKind → List Cell → Store
unmark_all_on store kind cells = record store { marks = fold (λ marks cell. without_mark marks (mark_on kind cell)) store.marks cells }

-- how many marks and rows there are, of which a store has room for `marks_limit`
abbrev pub marked_by : Store → ℕ
marked_by store = length store.marks + length store.rows
