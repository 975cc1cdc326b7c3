-- Tables of pending operations, and what is asked of them.
use Rattle.std.specs.Prelude.{◌≡◌, ℕ, Bool, true, false, ◌&&◌, ◌||◌, ◌==◌, nat_lt, find, Option, None, Some, option_map}
use Rattle.petal_base.specs.declared.cell.Cell.{Cell}
use Rattle.petal_msg.specs.declared.operation.Pending.{Pending}
use Rattle.petal_msg.specs.declared.operation.Stage.{Stage}
use Rattle.petal_table.specs.Table.{Table, at, put}
use Rattle.global_tables.specs.Region.{region_of}
use Rattle.spec_rules.specs.Writes.{is_clients}
use Rattle.spec_rules.specs.Store.{cell_cmp}
use Rattle.pair_lock.specs.declared.error.PairError.{PairError}
use Rattle.pair_lock.specs.declared.error.PairError.TheVariants as error
use Rattle.pair_lock.specs.declared.scope.Scope.{Scope}

-- each operation stands at its own cell
abbrev pub EachAtItsCell : Table Cell Pending → Type 0
EachAtItsCell table = (cell : Cell) (op : Pending) → at cell_cmp table cell ≡ Some op → op.cell ≡ cell

-- the operation that was handed back
abbrev pub refused : PairError → Pending
refused (error.Busy op) = op
refused (error.NoMemory op) = op

-- the operation as far as this
abbrev pub at_stage : Pending → Stage → Pending
at_stage op stage = record op { stage = stage }

-- the table with what is pending on the cell as far as this
abbrev pub staged : Table Cell Pending → Cell → Stage → Option Pending → Table Cell Pending
staged table cell stage None = table
staged table cell stage (Some op) = put cell_cmp table cell (at_stage op stage)

-- the operation with this version and as far as this
abbrev pub at_version : Pending → ℕ → Stage → Pending
at_version op version stage = record op { version = version; stage = stage }

-- the table with what is pending on the cell with this version and as far as this
abbrev pub versioned : Table Cell Pending → Cell → ℕ → Stage → Option Pending → Table Cell Pending
versioned table cell version stage None = table
versioned table cell version stage (Some op) = put cell_cmp table cell (at_version op version stage)

-- the number is there
abbrev pub is_this : Option ℕ → ℕ → Bool
is_this None n = false
is_this (Some m) n = m == n

-- the number is there, or none is asked for
abbrev pub is_any : Option ℕ → ℕ → Bool
is_any None n = true
is_any (Some m) n = m == n

-- the cell is under one of the scope's maps and in its region
abbrev pub in_scope : Scope → Cell → Bool
in_scope scope cell = (scope.map == cell.map || is_this scope.old_map cell.map) && is_any scope.region (region_of cell.block)

-- a write is pending on a cell of the scope
abbrev pub is_write_in : Scope → Cell × Pending → Bool
is_write_in scope row = is_clients row.1.kind && in_scope scope row.0

-- the first cell in the order of cells on which a write is pending in the scope
abbrev pub first_write_in : Scope → Table Cell Pending → Option Cell
first_write_in scope table = option_map (λ row. row.0) (find (is_write_in scope) table)

-- above a number, if there is one
abbrev pub above : Option ℕ → ℕ → Bool
above None n = true
above (Some after) n = nat_lt after n

-- the row is of this map, and of a block above that one
abbrev pub is_next : ℕ → Option ℕ → Cell × Pending → Bool
is_next map after row = row.0.map == map && above after row.0.block

-- of the map's cells with a pending operation, the one of the least block above a number: cells stand by map and then by block
abbrev pub next_pending : ℕ → Option ℕ → Table Cell Pending → Option Cell
next_pending map after table = option_map (λ row. row.0) (find (is_next map after) table)
