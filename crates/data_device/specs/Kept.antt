-- What a list of records gives, in order, from a store without entries, marks and rows.
use Rattle.std.specs.Prelude.{◌≢◌, ℕ, ◌+◌, ◌<◌, ◌≤◌, Bool, false, List, [], ◌∷◌, length, All, fold, ⊤}
use Rattle.busy_marks.specs.declared.marks.Mark.{Mark}
use Rattle.busy_marks.specs.Marks.{with_mark, without_mark}
use Rattle.client_rows.specs.declared.row.Row.{Row}
use Rattle.client_rows.specs.Rows.{rows_after, with_row, without_rows}
use Rattle.petal_base.specs.Limits.{marks_limit}
use Rattle.physical_map.specs.declared.entry.Entry.{Entry}
use Rattle.physical_map.specs.Entries.{key_of, without_key}
use Rattle.physical_map.specs.Keys.{placed}
use Rattle.data_device.specs.declared.record.StoreRecord.{StoreRecord}
use Rattle.data_device.specs.declared.record.StoreRecord.TheVariants as kind

-- the entries by rising key, the marks in the order of their cells and kinds, the rows by map, link and client, and whether the store
-- is still to be filled again
pub record Kept : Type 0 where
  pub entries : List Entry
  pub marks : List Mark
  pub rows : List Row
  pub fresh : Bool

-- what a store keeps when it was just formatted
abbrev pub formatted : Bool → Kept
formatted fresh = record { entries = []; marks = []; rows = []; fresh = fresh }

-- after one record more
abbrev pub kept_after : Kept → StoreRecord → Kept
kept_after kept (kind.Put key version slot origin) = record kept {
  entries = placed key_of kept.entries (record { key = key; slot = slot; version = version });
  rows = rows_after kept.rows key.map origin;
}
kept_after kept (kind.Drop key) = record kept { entries = without_key kept.entries key }
kept_after kept (kind.Mark k cell) = record kept { marks = with_mark kept.marks (record { kind = k; cell = cell }) }
kept_after kept (kind.Unmark k cell) = record kept { marks = without_mark kept.marks (record { kind = k; cell = cell }) }
kept_after kept kind.Settled = record kept { fresh = false }
kept_after kept (kind.Forget map link) = record kept { rows = without_rows kept.rows map link }
kept_after kept (kind.Done map origin) = record kept { rows = with_row kept.rows map origin }

abbrev pub kept_of : Bool → List StoreRecord → Kept
kept_of fresh records = fold kept_after (formatted fresh) records

-- marks and rows are no more than a half of the journal has room for beside the entries
abbrev pub IsWithin : Kept → Type 0
IsWithin kept = length kept.marks + length kept.rows ≤ marks_limit

-- a put takes a slot of the device that no entry has
abbrev pub TakesFree : ℕ → Kept → StoreRecord → Type 0
TakesFree slots kept (kind.Put key version slot origin) = (slot < slots) × All (λ e. e.slot ≢ slot) kept.entries
TakesFree slots kept (kind.Drop key) = ⊤
TakesFree slots kept (kind.Mark k cell) = ⊤
TakesFree slots kept (kind.Unmark k cell) = ⊤
TakesFree slots kept kind.Settled = ⊤
TakesFree slots kept (kind.Forget map link) = ⊤
TakesFree slots kept (kind.Done map origin) = ⊤

-- the record may come next: what it puts is put into a free slot, and no more marks and rows are there than may be
abbrev pub Fits : ℕ → Kept → StoreRecord → Type 0
Fits slots kept entry = TakesFree slots kept entry × IsWithin (kept_after kept entry)

-- each record may come after those before it
abbrev pub AllFit : ℕ → Kept → List StoreRecord → Type 0
AllFit slots kept [] = ⊤
AllFit slots kept (r ∷ rs) = Fits slots kept r × AllFit slots (kept_after kept r) rs
