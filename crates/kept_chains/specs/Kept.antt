-- A server's store as the rules see it.
use Rattle.std.specs.Prelude.{List, length}
use Rattle.petal_base.specs.declared.cell.Cell.{Cell}
use Rattle.petal_table.specs.Table.{Table}
use Rattle.spec_rules.specs.Store.{Chain, Stored, Store}
use Rattle.server_store.specs.Holdings.{Held, Holdings, key_held}
use Rattle.kept_chains.specs.Chains.{chains_by}

-- an entry and its content, without the slot
abbrev pub stored_of : Held → Stored
stored_of held = record { version = held.entry.version; bytes = held.content }

-- the entries as the chains of cells
abbrev pub chains_of : List Held → Table Cell Chain
chains_of entries = chains_by key_held stored_of entries

-- the slots, the chains, how many slots are set apart, the marks, the rows, and whether it is still to be filled
abbrev pub store_of : {D : Type 0} → Holdings D → Store
store_of store = record {
  slots = store.slots;
  chains = chains_of store.entries;
  tickets = length store.tickets;
  marks = store.marks;
  rows = store.rows;
  fresh = store.fresh;
}
