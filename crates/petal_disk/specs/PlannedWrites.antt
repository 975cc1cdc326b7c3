-- What becomes of a write on a disk under a plan.
use Rattle.std.specs.Prelude.{◌≡◌, ◌<◌, ◌⊎◌, ℕ, true, false, List, Result, IsErr}
use Rattle.device_faults.specs.declared.plan.CallKind.TheVariants.{Write}
use Rattle.petal_disk.specs.declared.planned.Planned.{Planned}
use Rattle.petal_disk.specs.Disk.{written}
use Rattle.device_faults.specs.Faults.{HasCause}
use Rattle.petal_disk.specs.Plans.{fails, stops, is_late, after, plan_state}

-- a write of these bytes: where the plan is met it fails, and all of them, their first half or none were written, or the disk
-- beneath failed; elsewhere it is the write of the disk beneath
pub record PlannedWrite {D T E : Type 0} (observable : Type 0) (seen : D → List ℕ) (faults : D → ℕ) (old new : Planned D) (at : ℕ) (bytes half : List ℕ)
    (result : Result T E) : Type 0 where
  pub struck : fails (plan_state old).plan Write ≡ true → IsErr result
  pub late : fails (plan_state old).plan Write ≡ true → is_late (plan_state old).plan ≡ true
      → (observable → seen new.disk ≡ written (seen old.disk) at bytes) ⊎ (faults old.disk < faults new.disk)
  pub halved : fails (plan_state old).plan Write ≡ true → is_late (plan_state old).plan ≡ false → stops (plan_state old).plan ≡ true
      → (observable → seen new.disk ≡ written (seen old.disk) at half) ⊎ (faults old.disk < faults new.disk)
  pub unwritten : fails (plan_state old).plan Write ≡ true → is_late (plan_state old).plan ≡ false → stops (plan_state old).plan ≡ false
      → new.disk ≡ old.disk
  pub spared : fails (plan_state old).plan Write ≡ false → HasCause (faults old.disk) (faults new.disk) result
  pub state : plan_state new ≡ after (plan_state old) Write
