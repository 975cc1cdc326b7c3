-- Which refusals come where.
use Rattle.std.specs.Prelude.{◌≤◌, ◌<◌, ℕ, ⊤, Result, IsErrOf}
use Rattle.block_journal.specs.declared.error.JournalError.{JournalError}
use Rattle.block_journal.specs.declared.error.JournalError.TheVariants as journal
use Rattle.data_device.specs.declared.error.StoreError.{StoreError}
use Rattle.data_device.specs.declared.error.StoreError.TheVariants.{Failed, NoSpace, MarksFull, BadRecord, NoMemory}

-- what a journal's refusal means for the store, which asks for no more room than there is
abbrev pub of_journal : JournalError → StoreError
of_journal journal.Failed = Failed
of_journal journal.Full = Failed
of_journal journal.NoMemory = NoMemory

-- those of formatting
abbrev pub IsFormatError : StoreError → Type 0
IsFormatError Failed = ⊤
IsFormatError NoSpace = ⊥
IsFormatError MarksFull = ⊥
IsFormatError (BadRecord index) = ⊥
IsFormatError NoMemory = ⊤

-- those of a reservation
abbrev pub IsReserveError : StoreError → Type 0
IsReserveError Failed = ⊥
IsReserveError NoSpace = ⊤
IsReserveError MarksFull = ⊥
IsReserveError (BadRecord index) = ⊥
IsReserveError NoMemory = ⊤

-- those of a put, for which memory was taken before
abbrev pub IsPutError : StoreError → Type 0
IsPutError Failed = ⊤
IsPutError NoSpace = ⊥
IsPutError MarksFull = ⊤
IsPutError (BadRecord index) = ⊥
IsPutError NoMemory = ⊥

-- those of a new mark
abbrev pub IsMarkError : StoreError → Type 0
IsMarkError Failed = ⊤
IsMarkError NoSpace = ⊥
IsMarkError MarksFull = ⊤
IsMarkError (BadRecord index) = ⊥
IsMarkError NoMemory = ⊤

-- the count of faults does not fall, and `Failed` comes only where it has risen
pub record HasFault {T : Type 0} (before now : ℕ) (result : Result T StoreError) : Type 0 where
  pub later : before ≤ now
  pub failed : IsErrOf result Failed → before < now
