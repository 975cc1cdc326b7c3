-- What is read of a journal's bodies.
use Rattle.std.specs.Prelude.{◌≡◌, ◌⊎◌, ℕ, ◌<◌, ◌≤◌, Bool, List, [], ◌∷◌, ◌++◌, length, take, slice_index_or, ⊤}
use Rattle.block_journal.specs.Heads.{NoHeadCounts}
use Rattle.petal_base.specs.Limits.{max_slots}
use Rattle.data_device.specs.Spelling.{spelling, HasSpelling}
use Rattle.data_device.specs.declared.record.StoreRecord.{StoreRecord}
use Rattle.data_device.specs.declared.error.StoreError.{StoreError}
use Rattle.data_device.specs.declared.error.StoreError.TheVariants.{Failed, NoSpace, MarksFull, BadRecord, NoMemory}
use Rattle.data_device.specs.declared.replay.Replay.{Replay}
use Rattle.data_device.specs.Device.{header, bodies_of, AreSpelled, StandsFor, header_bytes, journal_base, IsJournalOf}
use Rattle.data_device.specs.Kept.{Kept, Fits, AllFit, formatted, kept_after, kept_of}
use Rattle.data_device.specs.Slots.{slot_start}

-- what the records so far give
abbrev pub kept_by : Replay → Kept
kept_by replay =
    record { entries = replay.ledger.entries; marks = replay.marks.marks; rows = replay.rows.rows; fresh = replay.fresh }

-- the records before are spelled, and no record that fits after them is spelled by the body of this index
pub record IsBad (slots : ℕ) (fresh : Bool) (bodies : List (List ℕ)) (index : ℕ) : Type 0 where
  pub within : index < length bodies
  pub records : List StoreRecord
  pub spelled : AreSpelled records
  pub before : bodies_of records ≡ take index bodies
  pub bad : (r : StoreRecord) → HasSpelling r → slice_index_or bodies index [] ≡ spelling r → ¬ Fits slots (kept_of fresh records) r

-- the refusals of reading records
abbrev pub IsReadError : StoreError → Type 0
IsReadError Failed = ⊥
IsReadError NoSpace = ⊥
IsReadError MarksFull = ⊥
IsReadError (BadRecord index) = ⊤
IsReadError NoMemory = ⊤

-- one body is read
pub record Reads (old new : Replay) (body : List ℕ) : Type 0 where
  pub entry : StoreRecord
  pub has_spelling : HasSpelling entry
  pub body_is : body ≡ spelling entry
  pub only : (r : StoreRecord) → HasSpelling r → body ≡ spelling r → r ≡ entry
  pub fits : Fits old.ledger.slots (kept_by old) entry
  pub kept : kept_by new ≡ kept_after (kept_by old) entry
  pub records : new.history.items ≡ old.history.items ++ entry ∷ []
  pub slots : new.ledger.slots ≡ old.ledger.slots
  pub tickets : new.ledger.tickets ≡ []

-- the bodies are read
pub record IsRead (slots : ℕ) (fresh : Bool) (bodies : List (List ℕ)) (replay : Replay) : Type 0 where
  pub found : bodies_of replay.history.items ≡ bodies
  pub spelled : AreSpelled replay.history.items
  pub fit : AllFit slots (formatted fresh) replay.history.items
  pub kept : kept_by replay ≡ kept_of fresh replay.history.items
  pub slots_are : replay.ledger.slots ≡ slots
  pub tickets : replay.ledger.tickets ≡ []

-- the journal's body of this index is bad
pub record IsBadOn (file : List ℕ) (slots : ℕ) (fresh : Bool) (index : ℕ) : Type 0 where
  pub bodies : List (List ℕ)
  pub list : IsJournalOf file bodies
  pub bad : IsBad slots fresh bodies index

-- no header of the device says of slots that fit it
abbrev pub HasNoHeader : List ℕ → ℕ → Type 0
HasNoHeader file size = (slots : ℕ) (fresh : Bool) → slots ≤ max_slots → take header_bytes file ≡ header slots fresh → size < slot_start slots

-- there is no such header, or neither half of the journal counts
abbrev pub IsBlank : List ℕ → ℕ → Type 0
IsBlank file size = HasNoHeader file size ⊎ NoHeadCounts journal_base file

-- what formatting may leave: what might have been there before, a blank device, or the store without records
abbrev pub LeftByFormat : (List ℕ → Type 0) → ℕ → ℕ → Bool → List ℕ → Type 0
LeftByFormat before size slots fresh file = before file ⊎ IsBlank file size ⊎ StandsFor file slots fresh []
