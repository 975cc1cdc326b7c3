-- What a store shows.
use Rattle.std.specs.Prelude.{ℕ, ◌≡◌, ◌≤◌, ◌+◌, ◌-◌, Bool, false, not, is_some, List, [], ◌∷◌, length, map, Option, None, Some, Vec, vec_len, if◌then◌else◌}
use Rattle.std.specs.declared.alloc.Global.{Global}
use Rattle.block_journal.specs.declared.half.TheConstants.{TURN_BYTES}
use Rattle.busy_marks.specs.declared.marks.Mark.{Mark}
use Rattle.busy_marks.specs.Marks.{Marked, next_marked_map}
use Rattle.client_rows.specs.declared.row.Row.{Row}
use Rattle.client_rows.specs.Rows.{Numbered, row_of}
use Rattle.petal_base.specs.Block.{zero_block}
use Rattle.petal_base.specs.Limits.{marks_limit, max_slots}
use Rattle.petal_base.specs.Origins.{Named}
use Rattle.petal_base.specs.declared.cell.Key.{Key}
use Rattle.physical_map.specs.declared.entry.Entry.{Entry}
use Rattle.physical_map.specs.Entries.{lesser, next_map_of}
use Rattle.physical_map.specs.Keys.{same_key}
use Rattle.data_device.specs.Device.{Log}
use Rattle.data_device.specs.Accounts.{Book}
use Rattle.data_device.specs.Kept.{Kept, kept_of}
use Rattle.data_device.specs.Slots.{slot_bytes, slot_start}

-- an entry and its content
pub record Held : Type 0 where
  pub entry : Entry
  pub content : List ℕ

-- the entries in the order of their keys, the slots of the tickets out, the marks, the rows, the number of slots, whether the store
-- was formatted to be filled again and is not yet so, what was committed, and the device
pub record Holdings (D : Type 0) : Type 0 where
  pub entries : List Held
  pub tickets : List ℕ
  pub marks : List Mark
  pub rows : List Row
  pub slots : ℕ
  pub fresh : Bool
  pub log : Log
  pub disk : D

abbrev pub key_held : Held → Key
key_held held = held.entry.key

-- the entries without their contents
abbrev pub listed : List Held → List Entry
listed helds = map (λ h. h.entry) helds

-- what is held without the entry that has a key
abbrev pub without_held : List Held → Key → List Held
without_held [] key = []
without_held (h ∷ hs) key = if same_key h.entry.key key then hs else h ∷ without_held hs key

-- an entry with the content that its slot has
abbrev pub held_in : List ℕ → Entry → Held
held_in file entry = record { entry = entry; content = slot_bytes file entry.slot }

-- what of a store its records keep
abbrev pub kept_in : {D : Type 0} → Holdings D → Kept
kept_in store = record { entries = listed store.entries; marks = store.marks; rows = store.rows; fresh = store.fresh }

-- how many marks and rows there are
abbrev pub marked_in : {D : Type 0} → Holdings D → ℕ
marked_in store = length store.marks + length store.rows

-- whether a write would add a row to these
abbrev pub adds_to : List Row → (map : ℕ) → Option Named → Bool
adds_to rows map None = false
adds_to rows map (Some origin) = not (is_some (row_of rows map origin.link origin.client))

-- whether a put for a write would add a row
abbrev pub adds_row : {D : Type 0} → Holdings D → (map : ℕ) → Option Named → Bool
adds_row store map origin = adds_to store.rows map origin

-- how many slots are neither in use nor promised
abbrev pub free_slots : {D : Type 0} → Holdings D → ℕ
free_slots store = store.slots - (length store.entries + length store.tickets)

-- the content of what was found, and zeros where nothing was
abbrev pub content_of : Option Held → List ℕ
content_of None = zero_block
content_of (Some held) = held.content

-- of all entries and marks, the least map above a number
abbrev pub next_map_in : Option ℕ → List Entry → List Mark → Option ℕ
next_map_in after entries marks = lesser (next_map_of after entries) (next_marked_map after marks)

-- the records of the log keep what is in memory; the slots fit the device; and there is room for the rows of the tickets and a buffer
pub record IsKeptBy (ledger : Book) (marks : Marked) (rows : Numbered) (fresh : Bool) (log : Log) (buffer : Vec ℕ Global) (size : ℕ) : Type 0 where
  pub fits : slot_start ledger.slots ≤ size
  pub few : ledger.slots ≤ max_slots
  pub kept : kept_of log.fresh log.records ≡ record { entries = ledger.entries; marks = marks.marks; rows = rows.rows; fresh = fresh }
  pub within : length marks.marks + length rows.rows ≤ marks_limit
  pub room : length ledger.tickets ≤ rows.spare
  pub buffer_is : vec_len buffer ≡ TURN_BYTES
