-- A job that ends without a call of the device, by the rule that says so.
use Rattle.std.proofs.Common.{◌≡◌, ℕ, List, Result, subst}
use Rattle.petal_disk.specs.declared.disk.Disk.{Ghosts}
use Rattle.spec_rules.specs.Server.{JobContext}
use Rattle.spec_rules.specs.Server as rules
use Rattle.pair_memory.proofs.Said.{said_done}
use Rattle.pair_memory.specs.JobResult.{IsDone, IsSaid, held}
use Rattle.pair_memory.specs.PairMemory.{PairMemory}
use Rattle.pair_memory.specs.declared.error.WorkError.{WorkError}
use Rattle.pair_memory.specs.declared.job_result.JobResult.{JobResult}
use Rattle.server_store.specs.Holdings.{Holdings}

pub said_as : {D : Type 0} (device : Ghosts D) → ((d : D) → device.came_to d d)
    → ((d : D) (c : List ℕ) → device.left_since d (device.moment d) c → device.may_leave d c)
    → (here : JobContext) (old new : PairMemory) (before after : Holdings D) (result : Result JobResult WorkError) (rule all : rules.JobResult)
    → IsSaid here old new before after result rule → rule ≡ all → IsDone device here (held old before) (held new after) result all
said_as device stays only_now here old new before after result rule all said is =
    subst (IsDone device here (held old before) (held new after) result) is
    (said_done device stays only_now here old new before after result rule said)
