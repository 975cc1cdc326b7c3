-- The entry that a put replaces or a drop takes out, and what a map keeps.
use Rattle.std.specs.Prelude.{◌≡◌, ℕ, List, [], ◌∷◌, Option, None, Some, if◌then◌else◌}
use Rattle.petal_base.specs.declared.cell.Key.{Key}
use Rattle.physical_map.specs.declared.entry.Entry.{Entry}
use Rattle.physical_map.specs.Entries.{key_of, top_of}
use Rattle.physical_map.specs.Keys.{same_key, IsInOrder}

-- the entry that has a key
abbrev pub entry_of : List Entry → Key → Option Entry
entry_of [] key = None
entry_of (e ∷ es) key = if same_key e.key key then Some e else entry_of es key

abbrev pub slot_in : Option Entry → Option ℕ
slot_in None = None
slot_in (Some e) = Some e.slot

-- the version of an entry, 0 without one
abbrev pub version_in : Option Entry → ℕ
version_in None = 0
version_in (Some e) = e.version

-- the entries are in order, and the number is their greatest version
pub record IsSound (entries : List Entry) (top : ℕ) : Type 0 where
  pub order : IsInOrder key_of entries
  pub greatest : top ≡ top_of entries
