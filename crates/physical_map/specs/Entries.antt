-- Lists of entries, and what is asked of them.
use Rattle.std.specs.Prelude.{ℕ, Bool, true, ◌&&◌, ◌==◌, nat_lt, max, List, [], ◌∷◌, Option, None, Some, if◌then◌else◌, filter}
use Rattle.petal_base.specs.declared.cell.Cell.{Cell}
use Rattle.petal_base.specs.declared.cell.Key.{Key}
use Rattle.physical_map.specs.declared.entry.Entry.{Entry}
use Rattle.physical_map.specs.Keys.{same_key}

-- the entries in order, and for how many new keys there is room
pub record Table : Type 0 where
  pub entries : List Entry
  pub spare : ℕ

abbrev pub key_of : Entry → Key
key_of entry = entry.key

-- the slot of the entry that has a key
abbrev pub slot_of : List Entry → Key → Option ℕ
slot_of [] key = None
slot_of (e ∷ es) key = if same_key e.key key then Some e.slot else slot_of es key

-- the entries without the one that has a key
abbrev pub without_key : List Entry → Key → List Entry
without_key [] key = []
without_key (e ∷ es) key = if same_key e.key key then es else e ∷ without_key es key

-- the key is one of the cell's
abbrev pub in_cell : Cell → Key → Bool
in_cell cell key = key.map == cell.map && key.block == cell.block

-- the entries of a cell
abbrev pub chain_of : Cell → List Entry → List Entry
chain_of cell entries = filter (λ e. in_cell cell e.key) entries

-- the greatest version of all entries, 0 without one
abbrev pub top_of : List Entry → ℕ
top_of [] = 0
top_of (e ∷ es) = max e.version (top_of es)

-- the greatest version of a cell's entries, 0 without one
abbrev pub version_of : Cell → List Entry → ℕ
version_of cell [] = 0
version_of cell (e ∷ es) = if in_cell cell e.key then max e.version (version_of cell es) else version_of cell es

-- above a number, if there is one
abbrev pub above : Option ℕ → ℕ → Bool
above None n = true
above (Some after) n = nat_lt after n

-- the lesser of two numbers, where there are two
abbrev pub lesser : Option ℕ → Option ℕ → Option ℕ
lesser None b = b
lesser (Some a) None = Some a
lesser (Some a) (Some b) = if nat_lt b a then Some b else Some a

-- of a map's entries, the least block above a number
abbrev pub next_block_of : ℕ → Option ℕ → List Entry → Option ℕ
next_block_of map after [] = None
next_block_of map after (e ∷ es) =
    if e.key.map == map && above after e.key.block
    then lesser (Some e.key.block) (next_block_of map after es)
    else next_block_of map after es

-- a map's entries of the blocks above a number
abbrev pub map_entries : ℕ → Option ℕ → List Entry → List Entry
map_entries map after entries = filter (λ e. e.key.map == map && above after e.key.block) entries

-- of all entries, the least map above a number
abbrev pub next_map_of : Option ℕ → List Entry → Option ℕ
next_map_of after [] = None
next_map_of after (e ∷ es) =
    if above after e.key.map then lesser (Some e.key.map) (next_map_of after es) else next_map_of after es
