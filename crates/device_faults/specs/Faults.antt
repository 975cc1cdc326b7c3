-- Why a call of the outside may fail.
use Rattle.std.specs.Prelude.{◌<◌, ◌≤◌, ℕ, Result, IsErr}

-- the count of faults does not fall, and an error comes only where it has risen
pub record HasCause {T E : Type 0} (before now : ℕ) (result : Result T E) : Type 0 where
  pub later : before ≤ now
  pub failed : IsErr result → before < now
