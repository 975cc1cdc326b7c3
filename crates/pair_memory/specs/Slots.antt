-- Tickets by the cells for whose puts they are.
use Rattle.std.specs.Prelude.{◌≡◌, ℕ, Bool, true, false, ◌++◌, ◌∷◌, [], List, Some, Contains}
use Rattle.petal_base.specs.declared.cell.Cell.{Cell}
use Rattle.petal_table.specs.Table.{Table, at, put}
use Rattle.petal_base.specs.declared.cell.Key.{Key}
use Rattle.spec_rules.specs.Store.{Store, Stored, cell_cmp, with_entry, with_ticket}
use Rattle.kept_chains.specs.Holdings.{Holdings}

-- a slot was set apart, and its ticket stands at the cell
pub record IsKept {D : Type 0} (old_table new_table : Table Cell ℕ) (old new : Holdings D) (cell : Cell) : Type 0 where
  pub slot : ℕ
  pub table : new_table ≡ put cell_cmp old_table cell slot
  pub store : new ≡ record old { tickets = old.tickets ++ slot ∷ [] }
  pub other : ¬ Contains old.tickets slot
  pub out : Contains new.tickets slot

-- the ticket that stands at the cell is out at the store
abbrev pub IsOutAt : Table Cell ℕ → Cell → List ℕ → Type 0
IsOutAt table cell tickets = (slot : ℕ) → at cell_cmp table cell ≡ Some slot → Contains tickets slot

-- an entry is put into a free slot, where there is one
abbrev pub with_new : Store → Key → Stored → (room : Bool) → Store
with_new store key entry true = with_entry (with_ticket store) key entry
with_new store key entry false = store
