-- The plans of a server's two devices, of which a blank one, where there is one, is the data device.
use Rattle.std.specs.Prelude.{◌≡◌, ◌<◌, ◌⊎◌, ◌+◌, ◌∷◌, ℕ, false, [], None}
use Rattle.server_log.specs.Done as logs
use Rattle.pair_memory.specs.JobResult.{HoldsAt}
use Rattle.petal_disk.specs.declared.disk.Disk.{Ghosts}
use Rattle.server_store.specs.Holdings.{Holdings}
use Rattle.spec_paxos.specs.declared.record.StateRecord.TheVariants.{Inc}
use Rattle.state_store.specs.Device.{Keeping}
use Rattle.petal_disk.specs.Plans.{CameTo, beneath, plan_state}
use Rattle.petal_disk.specs.declared.planned.Planned.{Planned}
use Rattle.memory_server.specs.Server.{Mounted}
use Rattle.spec_rules.specs.Plans.{AreLeftOf, Armed, LeavesPlans}
use Rattle.spec_rules.specs.declared.step.Step.{Step}
use Rattle.memory_server.specs.declared.taken.Stops.{Stops}

-- the plans that are armed and were not met
abbrev pub armed_of : {D : Type 0} → Mounted (Planned D) → Armed
armed_of server = record { stored = (plan_state server.store.disk).plan; kept = (plan_state server.state.disk).plan }

-- which devices have met a plan that stops the server since they were armed
abbrev pub stops_of : {D : Type 0} → Mounted (Planned D) → Stops
stops_of server = record { stored = (plan_state server.store.disk).stopped; kept = (plan_state server.state.disk).stopped }

-- what calls can have made of both plans
pub record BothCameTo {D : Type 0} (old new : Mounted (Planned D)) : Type 0 where
  pub stored : CameTo (plan_state old.store.disk) (plan_state new.store.disk)
  pub kept : CameTo (plan_state old.state.disk) (plan_state new.state.disk)

-- how often the two devices beneath the plans have failed
abbrev pub faults_beneath : {D : Type 0} → (D → ℕ) → Mounted (Planned D) → ℕ
faults_beneath faults server = faults (beneath server.store.disk) + faults (beneath server.state.disk)

-- what a step leaves of the plans: what the rules say; or a device beneath them has failed, and there is at most what was there
abbrev pub LeavesPlansOver : {D : Type 0} → (D → ℕ) → Step → (old new : Mounted (Planned D)) → Type 0
LeavesPlansOver faults what old new =
    LeavesPlans what (armed_of old) (armed_of new) ⊎ ((faults_beneath faults old < faults_beneath faults new) × AreLeftOf (armed_of old) (armed_of new))

-- the store on its device without entries and marks
abbrev pub emptied : {D : Type 0} → Holdings D → Holdings D
emptied store =
    record store { entries = []; tickets = []; marks = []; rows = []; fresh = false; log = record store.log { fresh = false; records = [] } }

-- two stores as they were made on devices without plans, for a server's first incarnation
pub record IsFormatted {D : Type 0} (device : Ghosts (Planned D)) (store : Holdings (Planned D)) (state : Keeping (Planned D)) : Type 0 where
  pub empty : store ≡ emptied store
  pub first : state.records ≡ Inc 1 ∷ []
  pub shown : device.observable → HoldsAt device store
  pub state_shown : device.observable → logs.HoldsAt device state
  pub unplanned : (plan_state store.disk).plan ≡ None
  pub state_unplanned : (plan_state state.disk).plan ≡ None
