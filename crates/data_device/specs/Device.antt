-- What a data device stands for: a header of 64 bytes, after 4,096 bytes a journal of two halves, and after that the slots.
use Rattle.std.specs.Prelude.{ℕ, ◌≤◌, ◌≡◌, ◌⊎◌, Bool, List, [], ◌∷◌, ◌++◌, map, take, replicate, ⊤}
use Rattle.petal_disk.specs.Disk.{Torn}
use Rattle.block_journal.specs.Halves.{HalvesState, IsListOf, Stored}
use Rattle.block_journal.specs.declared.half.TheConstants.{HALVES_BYTES}
use Rattle.data_device.specs.declared.record.StoreRecord.{StoreRecord}
use Rattle.record_fields.specs.Fields.{word, flag}
use Rattle.data_device.specs.Spelling.{spelling, HasSpelling}
use Rattle.data_device.specs.Kept.{AllFit, formatted}
use Rattle.petal_base.specs.Limits.{max_slots}

-- how many bytes the header has
abbrev pub header_bytes : ℕ
header_bytes = 64

-- where the journal begins
abbrev pub journal_base : ℕ
journal_base = 4096

-- the bytes of both halves of the journal
abbrev pub journal_bytes : ℕ
journal_bytes = HALVES_BYTES

-- the gate, PETALDAT, version 2, the number of slots, 1 where the store is to be filled again and else 0, zeros
abbrev pub header : ℕ → Bool → List ℕ
header slots fresh = (165 ∷ 80 ∷ 69 ∷ 84 ∷ 65 ∷ 76 ∷ 68 ∷ 65 ∷ 84 ∷ []) ++ word 2 ++ word slots ++ flag fresh ++ replicate 46 0

-- the later half of the journal has these bodies
abbrev pub IsJournalOf : List ℕ → List (List ℕ) → Type 0
IsJournalOf file bodies = IsListOf journal_base file bodies

abbrev pub bodies_of : List StoreRecord → List (List ℕ)
bodies_of records = map spelling records

-- each of the records has a spelling
abbrev pub AreSpelled : List StoreRecord → Type 0
AreSpelled [] = ⊤
AreSpelled (r ∷ rs) = HasSpelling r × AreSpelled rs

-- the device stands for these records: those since it was formatted, or what a turn wrote in place of them and those since
pub record StandsFor (file : List ℕ) (slots : ℕ) (fresh : Bool) (records : List StoreRecord) : Type 0 where
  pub headed : take header_bytes file ≡ header slots fresh
  pub few : slots ≤ max_slots
  pub spelled : AreSpelled records
  pub fit : AllFit slots (formatted fresh) records
  pub stands : IsJournalOf file (bodies_of records)

-- what was committed: whether the store was formatted to be filled again, the records that the journal has, and its halves
pub record Log : Type 0 where
  pub fresh : Bool
  pub records : List StoreRecord
  pub halves : HalvesState

-- the device stands for the records of the log, now and after any crash, in the halves that are kept of it
pub record Logs (slots : ℕ) (log : Log) (seen : List ℕ) (may_leave : List ℕ → Type 0) : Type 0 where
  pub place : log.halves.base ≡ journal_base
  pub stored : Stored log.halves seen may_leave (bodies_of log.records)
  pub now : StandsFor seen slots log.fresh log.records
  pub left : (c : List ℕ) → may_leave c → StandsFor c slots log.fresh log.records

-- the device stands for the records of the log, or for these
abbrev pub EitherList : List ℕ → ℕ → Log → List StoreRecord → Type 0
EitherList file slots log news = StandsFor file slots log.fresh log.records ⊎ StandsFor file slots log.fresh news

-- what a crash may leave of a call that makes a new list: the old one or the new one, and outside the journal what it might have left
-- before
pub record LeftByChange (slots : ℕ) (log : Log) (may_leave : List ℕ → Type 0) (news : List StoreRecord) (c : List ℕ) : Type 0 where
  pub list : EitherList c slots log news
  pub from : List ℕ
  pub from_left : may_leave from
  pub outside : Torn journal_base journal_bytes from c
