-- What a journal's refusal means for the store.
use Rattle.std.specs.Prelude.{◌≤◌, ◌<◌, ℕ, ⊤, Result, IsErrOf}
use Rattle.block_journal.specs.declared.error.JournalError.{JournalError}
use Rattle.block_journal.specs.declared.error.JournalError.TheVariants as journal
use Rattle.state_store.specs.declared.error.StateError.{StateError}
use Rattle.state_store.specs.declared.error.StateError.TheVariants.{Failed, Blank, BadRecord, JournalFull, NoMemory, Exhausted}

abbrev pub of_journal : JournalError → StateError
of_journal journal.Failed = Failed
of_journal journal.Full = JournalFull
of_journal journal.NoMemory = NoMemory

-- the refusals of reading records
abbrev pub IsReadError : StateError → Type 0
IsReadError Failed = ⊥
IsReadError Blank = ⊥
IsReadError (BadRecord index) = ⊤
IsReadError JournalFull = ⊥
IsReadError NoMemory = ⊤
IsReadError Exhausted = ⊥

-- the count of faults does not fall, `Failed` comes only where it has risen, and reading the journal ends neither at a blank device
-- nor at a full journal
pub record HasJournalCause {T : Type 0} (before now : ℕ) (result : Result T StateError) : Type 0 where
  pub later : before ≤ now
  pub failed : IsErrOf result Failed → before < now
  pub not_blank : ¬ IsErrOf result Blank
  pub not_full : ¬ IsErrOf result JournalFull

-- the refusals of an append
abbrev pub IsAppendError : StateError → Type 0
IsAppendError Failed = ⊤
IsAppendError Blank = ⊥
IsAppendError (BadRecord index) = ⊥
IsAppendError JournalFull = ⊤
IsAppendError NoMemory = ⊥
IsAppendError Exhausted = ⊥

-- the refusals of a commit that may take memory
abbrev pub IsCommitError : StateError → Type 0
IsCommitError Failed = ⊤
IsCommitError Blank = ⊥
IsCommitError (BadRecord index) = ⊥
IsCommitError JournalFull = ⊤
IsCommitError NoMemory = ⊤
IsCommitError Exhausted = ⊥
