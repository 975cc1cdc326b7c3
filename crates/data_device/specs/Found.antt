-- What is found on a device.
use Rattle.std.specs.Prelude.{◌≡◌, ◌≤◌, ℕ, Bool, [], ⊤}
use Rattle.petal_base.specs.Limits.{max_slots}
use Rattle.data_device.specs.declared.error.StoreError.{StoreError}
use Rattle.data_device.specs.declared.error.StoreError.TheVariants.{Failed, NoSpace, MarksFull, BadRecord, NoMemory}
use Rattle.data_device.specs.declared.opening.Found.{Found}
use Rattle.data_device.specs.Device.{AreSpelled}
use Rattle.data_device.specs.Kept.{AllFit, formatted, kept_of}

-- what is found is what its records give on a device with so many slots that was formatted so
pub record IsFound (slots : ℕ) (fresh : Bool) (found : Found) : Type 0 where
  pub fresh_is : found.log.fresh ≡ fresh
  pub slots_are : found.ledger.slots ≡ slots
  pub few : slots ≤ max_slots
  pub tickets : found.ledger.tickets ≡ []
  pub spelled : AreSpelled found.log.records
  pub fit : AllFit slots (formatted fresh) found.log.records
  pub kept : kept_of fresh found.log.records
      ≡ record { entries = found.ledger.entries; marks = found.marks.marks; rows = found.rows.rows; fresh = found.fresh }

-- the refusals of opening
abbrev pub IsOpenError : StoreError → Type 0
IsOpenError Failed = ⊤
IsOpenError NoSpace = ⊥
IsOpenError MarksFull = ⊥
IsOpenError (BadRecord index) = ⊤
IsOpenError NoMemory = ⊤

-- those that come on a device that stands for records
abbrev pub IsGoodError : StoreError → Type 0
IsGoodError Failed = ⊤
IsGoodError NoSpace = ⊥
IsGoodError MarksFull = ⊥
IsGoodError (BadRecord index) = ⊥
IsGoodError NoMemory = ⊤
