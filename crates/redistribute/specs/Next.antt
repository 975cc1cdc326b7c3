-- The next entry that goes to the new map, as it is searched for.
use Rattle.std.specs.Prelude.{ℕ, ◌-◌, ◌==◌, ◌&&◌, Bool, true, false, List, [], ◌∷◌, filter, find, if◌then◌else◌, Option, None, Some, option_map}
use Rattle.std.specs.List.{flat_map}
use Rattle.global_tables.specs.Region.{region_of}
use Rattle.global_tables.specs.declared.link.LinkRow.{LinkRow}
use Rattle.petal_base.specs.declared.cell.Cell.{Cell}
use Rattle.petal_base.specs.declared.cell.Key.{Key}
use Rattle.petal_base.specs.Cells.{cell_of}
use Rattle.petal_table.specs.Table.{Table}
use Rattle.spec_rules.specs.Fills.{comes_next, first_key, keys_of}
use Rattle.spec_rules.specs.State.{State, is_on}
use Rattle.spec_rules.specs.Store.{Chain}
use Rattle.physical_map.specs.declared.entry.Entry.{Entry}
use Rattle.physical_map.specs.Entries.{key_of}

-- the cell is of the link and the region
abbrev pub is_of : State → LinkRow → (region : ℕ) → Cell → Bool
is_of state row region cell = is_on state row cell && (region_of cell.block == region)

-- the rule's next key of a link and a region after the last one, of these chains
abbrev pub next_after : State → LinkRow → (region : ℕ) → Option Key → Table Cell Chain → Option Key
next_after state row region last chains =
    first_key (filter (comes_next region last) (flat_map keys_of (filter (λ held. is_of state row region held.0) chains)))

-- the same of the region that is to be moved, if there is one
abbrev pub left_after : State → LinkRow → (region : Option ℕ) → Option Key → Table Cell Chain → Option Key
left_after state row None last chains = None
left_after state row (Some region) last chains = next_after state row region last chains

-- the key is of the link and the region, and after the last one
abbrev pub is_left : State → LinkRow → (region : ℕ) → Option Key → Key → Bool
is_left state row region last key = is_of state row region (cell_of key) && comes_next region last key

-- no block up to this one has an entry that is left
abbrev pub before_block : ℕ → Option ℕ
before_block block = if block == 0 then None else Some (block - 1)

abbrev pub none_below : (region : ℕ) → Option Key → Option ℕ
none_below region None = None
none_below region (Some last) = if region_of last.block == region then before_block last.block else None

abbrev pub first_left : State → LinkRow → (region : ℕ) → Option Key → List Entry → Option Key
first_left state row region last entries = option_map key_of (find (λ entry. is_left state row region last entry.key) entries)

abbrev pub or_key : Option Key → (is : Bool) → Key → Option Key
or_key None true key = Some key
or_key None false key = None
or_key (Some other) is key = Some other

-- of these entries the last one that is after the last key
abbrev pub last_left : (region : ℕ) → Option Key → List Entry → Option Key
last_left region last [] = None
last_left region last (entry ∷ entries) = or_key (last_left region last entries) (comes_next region last entry.key) entry.key
