-- What is read of a piece of records.
use Rattle.std.specs.Prelude.{◌≡◌, ◌≤◌, ◌<◌, ℕ, Bool, true, false, List, ◌++◌, length, Result, IsErrOf}
use Rattle.block_journal.specs.Records.{Counts}
use Rattle.block_journal.specs.declared.error.JournalError.{JournalError}
use Rattle.block_journal.specs.declared.error.JournalError.TheVariants.{Failed, Full}

-- the bodies that count in the piece came, and it is told whether all of its records count
pub record Took (r records : ℕ) (piece : List ℕ) (old new : List (List ℕ)) (more : Bool) : Type 0 where
  pub taken : List (List ℕ)
  pub new_is : new ≡ old ++ taken
  pub counts : Counts r 0 records piece taken
  pub all : more ≡ true → length taken ≡ records
  pub not_all : more ≡ false → length taken < records

-- the count of faults does not fall, `Failed` comes only where it has risen, and a read never finds the journal full
pub record HasReadCause {T : Type 0} (before now : ℕ) (result : Result T JournalError) : Type 0 where
  pub later : before ≤ now
  pub failed : IsErrOf result Failed → before < now
  pub not_full : ¬ IsErrOf result Full
