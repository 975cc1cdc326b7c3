-- When the one plan of a disk is met, and what its calls make of it.
use Rattle.std.specs.Prelude.{◌≡◌, ◌≤◌, ◌⊎◌, ◌+◌, ◌-◌, ◌==◌, ◌||◌, ◌&&◌, ℕ, Bool, true, false, Option, Some, None, if◌then◌else◌}
use Rattle.device_faults.specs.declared.plan.CallKind.{CallKind}
use Rattle.device_faults.specs.declared.plan.CallKind.TheVariants.{Any, Read, Write, Sync}
use Rattle.device_faults.specs.declared.plan.Plan.{Plan}
use Rattle.petal_disk.specs.declared.planned.Watch.{Watch}
use Rattle.petal_disk.specs.declared.planned.Planned.{Planned}

-- whether a plan for this kind counts that call
abbrev pub counts : CallKind → CallKind → Bool
counts Any call = true
counts Read Read = true
counts Write Write = true
counts Sync Sync = true
counts Read Any = false
counts Read Write = false
counts Read Sync = false
counts Write Any = false
counts Write Read = false
counts Write Sync = false
counts Sync Any = false
counts Sync Read = false
counts Sync Write = false

-- whether the call is the one that fails
abbrev pub fails : Option Plan → CallKind → Bool
fails None call = false
fails (Some plan) call = if counts plan.kind call then plan.at == 1 else false

-- the plan after the call: one call nearer, or met and gone
abbrev pub plan_after : Option Plan → CallKind → Option Plan
plan_after None call = None
plan_after (Some plan) call =
    if counts plan.kind call
    then (if plan.at == 1 then None else Some (record plan { at = plan.at - 1 }))
    else Some plan

-- whether the server is to stop where the plan is met
abbrev pub stops : Option Plan → Bool
stops None = false
stops (Some plan) = plan.stop

-- whether a write or a sync does all of its work before it fails
abbrev pub is_late : Option Plan → Bool
is_late None = false
is_late (Some plan) = plan.late

-- 1 where it is so
abbrev pub as_count : Bool → ℕ
as_count true = 1
as_count false = 0

-- how many calls come before the one with this number, counted from 1; no call has the number 0
abbrev pub calls_before : ℕ → Option ℕ
calls_before number = if number == 0 then None else Some (number - 1)

-- what has become of a disk's plan
pub record PlanState : Type 0 where
  -- the plan that is armed and not met
  pub plan : Option Plan
  -- a plan with `stop` was met since the last arming
  pub stopped : Bool
  -- how many calls plans have made fail
  pub strikes : ℕ

-- no plan yet
abbrev pub unplanned : PlanState
unplanned = record { plan = None; stopped = false; strikes = 0 }

-- after a call of this kind
abbrev pub after : PlanState → CallKind → PlanState
after state call = record {
  plan = plan_after state.plan call;
  stopped = state.stopped || (fails state.plan call && stops state.plan);
  strikes = state.strikes + as_count (fails state.plan call);
}

abbrev pub watch_state : Watch → PlanState
watch_state watch = record { plan = watch.plan; stopped = watch.stopped; strikes = watch.strikes.times }

-- the plan state of a disk under a plan
abbrev pub plan_state : {D : Type 0} → Planned D → PlanState
plan_state planned = watch_state planned.watch

-- the disk beneath the plan
abbrev pub beneath : {D : Type 0} → Planned D → D
beneath planned = planned.disk

-- the plan waits on, some calls nearer
abbrev pub WaitsOn : Option Plan → Option Plan → Type 0
WaitsOn None new = new ≡ None
WaitsOn (Some plan) new = (at : ℕ) × (at ≤ plan.at) × (new ≡ Some (record plan { at = at }))

-- the plan has not been met
pub record NotMet (old new : PlanState) : Type 0 where
  pub plan : WaitsOn old.plan new.plan
  pub stopped : new.stopped ≡ old.stopped
  pub strikes : new.strikes ≡ old.strikes

-- the plan has been met, once
pub record MetOnce (old new : PlanState) : Type 0 where
  pub plan : Plan
  pub was : old.plan ≡ Some plan
  pub gone : new.plan ≡ None
  pub stopped : new.stopped ≡ (old.stopped || plan.stop)
  pub strikes : new.strikes ≡ old.strikes + 1

-- what calls can have made of a plan state
abbrev pub CameTo : PlanState → PlanState → Type 0
CameTo old new = NotMet old new ⊎ MetOnce old new
