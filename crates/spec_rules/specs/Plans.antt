-- The plans that are armed at a server's two devices, and the steps that use them up.
use Rattle.std.specs.Prelude.{◌≡◌, ℕ, true, false, Option, Some, None}
use Rattle.device_faults.specs.declared.plan.CallKind.{CallKind}
use Rattle.device_faults.specs.declared.plan.CallKind.TheVariants.{Any}
use Rattle.device_faults.specs.declared.plan.Plan.{Plan}
use Rattle.device_faults.specs.declared.which.Which.{Which}
use Rattle.device_faults.specs.declared.which.Which.TheVariants.{Data, State}
use Rattle.spec_rules.specs.declared.step.Step.{Step}
use Rattle.spec_rules.specs.declared.step.Step.TheVariants.{Work, StopIn, Boot, Arm}
use Rattle.spec_rules.specs.declared.step.WorkEnd.TheVariants.{Fault}

-- the plan of a line that has a call of the data device stop its server
abbrev pub stop_plan : ℕ → Plan
stop_plan at = record { kind = Any; at = at; stop = true; late = false }

-- the plan of a line that has a call of a device fail
abbrev pub fault_plan : CallKind → ℕ → Plan
fault_plan kind at = record { kind = kind; at = at; stop = false; late = false }

-- the plan of the data device that is armed and was not met, where there is one, and that of the state device
pub record Armed : Type 0 where
  pub stored : Option Plan
  pub kept : Option Plan

-- no device has a plan
abbrev pub unarmed : Armed
unarmed = record { stored = None; kept = None }

-- the plan of a device
abbrev pub plan_of : Which → Armed → Option Plan
plan_of Data armed = armed.stored
plan_of State armed = armed.kept

-- from now on the device has this plan, or none
abbrev pub with_plan : Which → Option Plan → Armed → Armed
with_plan Data plan armed = record armed { stored = plan }
with_plan State plan armed = record armed { kept = plan }

-- a call of a device met its plan, which is then used up
pub record Spends (armed left : Armed) : Type 0 where
  pub which : Which
  pub plan : Plan
  pub was : plan_of which armed ≡ Some plan
  pub gone : left ≡ with_plan which None armed

-- the plan that was met stops the server
pub record SpendsOnStop (armed left : Armed) : Type 0 where
  pub spends : Spends armed left
  pub stops : spends.plan.stop ≡ true

-- what a step of the server makes of its plans: an arming puts its plan in the place of an earlier one, and each failure of a
-- device uses up a plan
abbrev pub Uses : Step → (armed left : Armed) → Type 0
Uses (Arm which plan) armed left = left ≡ with_plan which plan armed
Uses (Work (Fault end)) armed left = Spends armed left
Uses (StopIn end) armed left = SpendsOnStop armed left
Uses (Boot (Fault end)) armed left = Spends armed left
Uses _ armed left = left ≡ armed

-- of a plan nothing is left, or it waits on, maybe for fewer calls than before
abbrev pub IsLeftOf : (before now : Option Plan) → Type 0
IsLeftOf before None = Unit {0}
IsLeftOf before (Some plan) = (first : Plan) × (before ≡ Some first) × (plan.stop ≡ first.stop)

-- so of both devices
pub record AreLeftOf (before now : Armed) : Type 0 where
  pub stored : IsLeftOf before.stored now.stored
  pub kept : IsLeftOf before.kept now.kept

-- what a step leaves of the plans: what it uses is gone, and of the others there is at most what was there. (A call may meet a plan
-- without a failure of the step: it is made again.)
pub record LeavesPlans (what : Step) (before now : Armed) : Type 0 where
  pub used : Armed
  pub uses : Uses what before used
  pub rest : AreLeftOf used now
