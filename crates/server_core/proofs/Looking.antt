-- Entries that are read after others.
use Rattle.std.proofs.Common.{◌≤◌, ◌<◌, Result, ap, ◌∙◌, arith}
use Rattle.petal_disk.specs.declared.disk.Disk.{Ghosts}
use Rattle.petal_disk.proofs.Keeping.{keeps_on}
use Rattle.server_store.specs.Holdings.{Holdings}
use Rattle.device_faults.specs.declared.failure.DeviceError.{DeviceError}
use Rattle.pair_memory.specs.Letters.{IsLook}

module _ {D T U : Type 0} (device : Ghosts D) (onward : (a b c : D) → device.came_to a b → device.came_to b c → device.came_to a c)
    (before mid after : Holdings D) (first : Result U DeviceError) (result : Result T DeviceError) where
  pub look_then : IsLook device before mid first → IsLook device mid after result → IsLook device before after result
  look_then seen look =
      let later : device.faults before.disk ≤ device.faults mid.disk = seen.cause.later in
      let last : device.faults mid.disk ≤ device.faults after.disk = look.cause.later in
      record {
        same = look.same ∙ ap (λ (s : Holdings D). record s { disk = after.disk }) seen.same;
        kept = keeps_on device.size device.seen device.may_leave device.moment device.left_since before.disk mid.disk after.disk seen.kept look.kept;
        holds = λ observed holds. look.holds observed (seen.holds observed holds);
        cause = record {
          later = omega (arith, later, last);
          failed = λ no. let more : device.faults mid.disk < device.faults after.disk = look.cause.failed no in omega (arith, later, more);
        };
        run = onward before.disk mid.disk after.disk seen.run look.run;
      }
