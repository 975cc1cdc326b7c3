-- What a state device stands for: a header of 64 bytes, and after 4,096 bytes a journal of 65,536 records of 128 bytes.
use Rattle.std.specs.Prelude.{ℕ, ◌≡◌, ◌≢◌, ◌⊎◌, ◌+◌, ◌*◌, ◌≤◌, ◌<◌, List, [], ◌∷◌, ◌++◌, map, length, take, replicate, ⊤}
use Rattle.block_journal.specs.Records.{Counts, Stands, IsOpen, body_at}
use Rattle.block_journal.specs.Region.{Region}
use Rattle.spec_paxos.specs.declared.record.StateRecord.{StateRecord}
use Rattle.spec_paxos.specs.declared.record.StateRecord.TheVariants.{Inc}
use Rattle.state_store.specs.Body.{body_of, HasBody}
use Rattle.petal_base.specs.Limits.{journal_records}

-- how many bytes the header has
abbrev pub header_bytes : ℕ
header_bytes = 64

-- where the journal begins
abbrev pub journal_base : ℕ
journal_base = 4096

-- the bytes of a record in it, the gate and the body
abbrev pub record_bytes : ℕ
record_bytes = 128

-- the bytes of the header, the journal and what is between
abbrev pub device_bytes : ℕ
device_bytes = journal_base + record_bytes * journal_records

-- the gate, PETALSTA, version 1, zeros
abbrev pub header : List ℕ
header = 165 ∷ 80 ∷ 69 ∷ 84 ∷ 65 ∷ 76 ∷ 83 ∷ 84 ∷ 65 ∷ 0 ∷ 0 ∷ 0 ∷ 1 ∷ replicate 51 0

-- the journal stands for these bodies
abbrev pub JournalStands : List ℕ → List (List ℕ) → Type 0
JournalStands file bodies = Stands record_bytes journal_base journal_records file bodies

-- these bodies of the journal count
abbrev pub JournalCounts : List ℕ → List (List ℕ) → Type 0
JournalCounts file bodies = Counts record_bytes journal_base journal_records file bodies

abbrev pub bodies_of : List StateRecord → List (List ℕ)
bodies_of records = map body_of records

-- each of the records has a spelling
abbrev pub AreSpelled : List StateRecord → Type 0
AreSpelled [] = ⊤
AreSpelled (r ∷ rs) = HasBody r × AreSpelled rs

-- the device stands for these records
pub record StandsFor (file : List ℕ) (records : List StateRecord) : Type 0 where
  pub headed : take header_bytes file ≡ header
  pub spelled : AreSpelled records
  pub stands : JournalStands file (bodies_of records)

-- no header of a state device stands there
abbrev pub IsBlank : List ℕ → Type 0
IsBlank file = take header_bytes file ≢ header

-- what formatting may leave: what might have been there before, a blank device, or the one record of the incarnation
abbrev pub LeftByFormat : (List ℕ → Type 0) → ℕ → List ℕ → Type 0
LeftByFormat before inc file = before file ⊎ IsBlank file ⊎ StandsFor file (Inc inc ∷ [])

-- the record of this index has no spelling, and its gate is open, as all gates before it are
pub record IsBadOn (file : List ℕ) (index : ℕ) : Type 0 where
  pub within : index < journal_records
  pub opened : (i : ℕ) → i ≤ index → IsOpen record_bytes journal_base file i
  pub bad : (r : StateRecord) → HasBody r → body_at record_bytes journal_base file index ≢ body_of r

-- the records, with one more or without it
abbrev pub WithOrWithout : List ℕ → List StateRecord → StateRecord → Type 0
WithOrWithout file records entry = StandsFor file records ⊎ StandsFor file (records ++ entry ∷ [])

-- the records before a commit, or those after it, which are one more
abbrev pub StandsForEither : List StateRecord → List StateRecord → List ℕ → Type 0
StandsForEither before after file = StandsFor file before ⊎ (StandsFor file after × (length after ≡ length before + 1))

-- the device of a store stands for its records, now and after any crash, and its journal counts them
pub record Holds (region : Region) (seen : List ℕ) (may_leave : List ℕ → Type 0) (records : List StateRecord) : Type 0 where
  pub count : region.count ≡ length records
  pub now : StandsFor seen records
  pub left : (c : List ℕ) → may_leave c → StandsFor c records

-- a state store: what was committed, its journal's region, and its device
pub record Keeping (D : Type 0) : Type 0 where
  pub records : List StateRecord
  pub region : Region
  pub disk : D
