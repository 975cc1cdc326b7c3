-- What a device shows of a store: the store that its records give, each entry with the content of its slot.
use Rattle.std.specs.Prelude.{ℕ, ◌≡◌, ◌≢◌, ◌⊎◌, Bool, false, List, [], ◌∷◌, ◌++◌, fold, map, ⊤}
use Rattle.busy_marks.specs.declared.marks.Mark.{Mark}
use Rattle.busy_marks.specs.Marks.{with_mark, without_mark}
use Rattle.client_rows.specs.declared.row.Row.{Row}
use Rattle.client_rows.specs.Rows.{rows_after, with_row, without_rows}
use Rattle.petal_disk.specs.declared.disk.Disk.{Ghosts}
use Rattle.physical_map.specs.Keys.{placed}
use Rattle.data_device.specs.declared.record.StoreRecord.{StoreRecord}
use Rattle.data_device.specs.declared.record.StoreRecord.TheVariants as kind
use Rattle.data_device.specs.Device.{StandsFor, Log, Logs}
use Rattle.server_store.specs.Holdings.{Held, Holdings, held_in, kept_in, key_held, without_held}
use Rattle.data_device.specs.Kept.{Kept, kept_after, kept_of}

-- what of a store stands on its device
pub record Picture : Type 0 where
  pub entries : List Held
  pub marks : List Mark
  pub rows : List Row
  pub fresh : Bool

abbrev pub picture_of : {D : Type 0} → Holdings D → Picture
picture_of store = record { entries = store.entries; marks = store.marks; rows = store.rows; fresh = store.fresh }

-- what the records keep, each entry with the content that its slot has
abbrev pub picture_in : List ℕ → Kept → Picture
picture_in file kept = record { entries = map (held_in file) kept.entries; marks = kept.marks; rows = kept.rows; fresh = kept.fresh }

-- after one record more; a put gives its entry the content
abbrev pub picture_after : Picture → StoreRecord → List ℕ → Picture
picture_after picture (kind.Put key version slot origin) content = record picture {
  entries = placed key_held picture.entries (record { entry = record { key = key; slot = slot; version = version }; content = content });
  rows = rows_after picture.rows key.map origin;
}
picture_after picture (kind.Drop key) content = record picture { entries = without_held picture.entries key }
picture_after picture (kind.Mark k cell) content = record picture { marks = with_mark picture.marks (record { kind = k; cell = cell }) }
picture_after picture (kind.Unmark k cell) content = record picture { marks = without_mark picture.marks (record { kind = k; cell = cell }) }
picture_after picture kind.Settled content = record picture { fresh = false }
picture_after picture (kind.Forget map link) content = record picture { rows = without_rows picture.rows map link }
picture_after picture (kind.Done map origin) content = record picture { rows = with_row picture.rows map origin }

-- after the records of one commit
abbrev pub picture_after_all : Picture → List StoreRecord → List ℕ → Picture
picture_after_all picture entries content = fold (λ p e. picture_after p e content) picture entries

-- the device stands for these records, and shows this
pub record Shows (file : List ℕ) (slots : ℕ) (fresh : Bool) (records : List StoreRecord) (picture : Picture) : Type 0 where
  pub stands : StandsFor file slots fresh records
  pub shown : picture_in file (kept_of fresh records) ≡ picture

-- a record that puts nothing
abbrev pub PutsNothing : StoreRecord → Type 0
PutsNothing (kind.Put key version slot origin) = ⊥
PutsNothing (kind.Drop key) = ⊤
PutsNothing (kind.Mark k cell) = ⊤
PutsNothing (kind.Unmark k cell) = ⊤
PutsNothing kind.Settled = ⊤
PutsNothing (kind.Forget map link) = ⊤
PutsNothing (kind.Done map origin) = ⊤

-- the device shows this picture, now and after any crash, in the halves that are kept of it
pub record Keeps (slots : ℕ) (log : Log) (picture : Picture) (seen : List ℕ) (may_leave : List ℕ → Type 0) : Type 0 where
  pub logs : Logs slots log seen may_leave
  pub shown : picture_in seen (kept_of log.fresh log.records) ≡ picture
  pub left : (c : List ℕ) → may_leave c → picture_in c (kept_of log.fresh log.records) ≡ picture

-- the device shows this picture by whatever records, which keep this
pub record IsShown (file : List ℕ) (slots : ℕ) (fresh : Bool) (kept : Kept) (picture : Picture) : Type 0 where
  pub records : List StoreRecord
  pub shows : Shows file slots fresh records picture
  pub keeps : kept_of fresh records ≡ kept

-- the device shows this picture, or the picture after the records of one commit, by whatever records, which keep what is kept of it
abbrev pub ShowsEither : List ℕ → ℕ → Log → Picture → List StoreRecord → List ℕ → Type 0
ShowsEither file slots log picture entries content =
    IsShown file slots log.fresh (kept_of log.fresh log.records) picture
    ⊎ IsShown file slots log.fresh (fold kept_after (kept_of log.fresh log.records) entries) (picture_after_all picture entries content)

-- the device shows the store, now and after any crash
abbrev pub Holds : {D : Type 0} → Holdings D → List ℕ → (List ℕ → Type 0) → Type 0
Holds store seen may_leave = Keeps store.slots store.log (picture_of store) seen may_leave

-- so says the device of its own bytes
abbrev pub HoldsAt : {D : Type 0} → Ghosts D → Holdings D → Type 0
HoldsAt device store = Holds store (device.seen store.disk) (device.may_leave store.disk)

-- the device shows the store as it was
abbrev pub IsBefore : {D : Type 0} → List ℕ → Holdings D → Type 0
IsBefore file store = IsShown file store.slots store.log.fresh (kept_in store) (picture_of store)

-- the device shows the store after the records of one commit, which has changed what is kept
pub record IsAfter {D : Type 0} (file : List ℕ) (store : Holdings D) (entries : List StoreRecord) (content : List ℕ) : Type 0 where
  pub other : fold kept_after (kept_in store) entries ≢ kept_in store
  pub shown : IsShown file store.slots store.log.fresh (fold kept_after (kept_in store) entries) (picture_after_all (picture_of store) entries content)

-- the device shows the store, or the store after this one commit
abbrev pub BeforeOrAfter : {D : Type 0} → List ℕ → Holdings D → List StoreRecord → List ℕ → Type 0
BeforeOrAfter file store entries content = IsBefore file store ⊎ IsAfter file store entries content
