-- Why a read may fail.
use Rattle.std.specs.Prelude.{◌≤◌, ◌<◌, ◌≡◌, ℕ, Result, Err}
use Rattle.device_faults.specs.declared.failure.DeviceError.{DeviceError}
use Rattle.device_faults.specs.declared.failure.DeviceError.TheVariants.{Failed}

-- the count of faults does not fall, and `Failed` comes only where it has risen
pub record IsReadFault {T : Type 0} (before now : ℕ) (result : Result T DeviceError) : Type 0 where
  pub later : before ≤ now
  pub failed : result ≡ Err Failed → before < now
