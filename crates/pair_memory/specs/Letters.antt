-- The letters of a step, one after the other, and what is read for them.
use Rattle.std.specs.Prelude.{◌≡◌, ℕ, List, [], Option, None, Some, Result}
use Rattle.petal_disk.specs.Keeping.{KeepsDevice}
use Rattle.petal_disk.specs.declared.disk.Disk.{Ghosts}
use Rattle.petal_msg.specs.declared.body.Body.{Body}
use Rattle.spec_rules.specs.Server.{Post, post_to}
use Rattle.kept_chains.specs.Holdings.{Holdings}
use Rattle.kept_chains.specs.Reading.{IsReadFault}
use Rattle.device_faults.specs.declared.failure.DeviceError.{DeviceError}
use Rattle.pair_memory.specs.JobResult.{HoldsAt}

-- one letter to a server, if any
abbrev pub posts_of : Option (ℕ × Body) → List Post
posts_of None = []
posts_of (Some one) = post_to (Some one.0) one.1

-- entries were read: nothing of the store changed, and the device keeps it as before
pub record IsLook {D T : Type 0} (device : Ghosts D) (before after : Holdings D) (result : Result T DeviceError) : Type 0 where
  pub same : after ≡ record before { disk = after.disk }
  pub kept : KeepsDevice device.size device.seen device.may_leave device.moment device.left_since before.disk after.disk
  pub holds : device.observable → HoldsAt device before → HoldsAt device after
  pub cause : IsReadFault (device.faults before.disk) (device.faults after.disk) result
  pub run : device.came_to before.disk after.disk
