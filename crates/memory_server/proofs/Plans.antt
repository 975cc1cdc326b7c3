-- What a server's steps leave of its plans.
use Rattle.std.proofs.Common.{◌≡◌, ◌≢◌, ◌⊎◌, ◌<◌, ◌+◌, ℕ, inl, inr, Bool, true, false, Option, None, Some, refl, sym, ap, subst, ◌∙◌, arith}
use Rattle.std.specs.Prelude.{◌||◌, not}
use Rattle.device_faults.specs.declared.plan.Plan.{Plan}
use Rattle.device_faults.specs.declared.which.Which.TheVariants.{Data, State}
use Rattle.petal_disk.specs.PlanRuns.{CameTo-later, CameTo-same}
use Rattle.petal_disk.specs.Plans.{CameTo, MetOnce, PlanState, WaitsOn, beneath, plan_state}
use Rattle.petal_disk.specs.declared.planned.Planned.{Planned}
use Rattle.spec_rules.specs.declared.step.CommitEnd.{CommitEnd}
use Rattle.spec_rules.specs.declared.step.Step.{Step}
use Rattle.spec_rules.specs.declared.step.Step.TheVariants.{Boot, StopIn, Work}
use Rattle.spec_rules.specs.declared.step.WorkEnd.{WorkEnd}
use Rattle.spec_rules.specs.declared.step.WorkEnd.TheVariants.{Done, Fault}
use Rattle.memory_server.specs.Ends.{job_end}
use Rattle.memory_server.specs.Server.{Mounted}
use Rattle.server_host.specs.Desks.{IsFault, as_end, boot_end, job_ended}
use Rattle.spec_rules.specs.Plans.{AreLeftOf, Armed, IsLeftOf, LeavesPlans, Spends, Uses}
use Rattle.memory_server.specs.Armed.{BothCameTo, LeavesPlansOver, armed_of, faults_beneath, stops_of}
use Rattle.memory_server.specs.contracts.taken.StopsPartialEq.TheImpl as flags
use Rattle.memory_server.specs.declared.taken.Stops.{Stops}

-- ### One device

waits_left : (before now : Option Plan) → WaitsOn before now → IsLeftOf before now
waits_left before None waits = tt
waits_left None (Some plan) waits = absurd (cc)
waits_left (Some first) (Some plan) waits =
    let same : plan ≡ record first { at = waits.0 } = let is = waits.2 in cc in (first, refl, ap (λ (p : Plan). p.stop) same)

gone_left : (before now : Option Plan) → now ≡ None → IsLeftOf before now
gone_left before now gone = subst (IsLeftOf before) (sym gone) tt

plan_left : (old new : PlanState) → CameTo old new → IsLeftOf old.plan new.plan
plan_left old new (inl waited) = waits_left old.plan new.plan waited.plan
plan_left old new (inr met) = gone_left old.plan new.plan met.gone

or_false : (b : Bool) → (b || false) ≡ b
or_false true = refl
or_false false = refl

-- the plan was met, and stops the server
record MetOnStop (old new : PlanState) : Type 0 where
  met : MetOnce old new
  stops : met.plan.stop ≡ true

-- a flag that changed tells so
on_stop : (old new : PlanState) → CameTo old new → MetOnStop old new ⊎ (new.stopped ≡ old.stopped)
on_stop old new (inl waited) = inr waited.stopped
on_stop old new (inr met) = by met.plan.stop refl
  where
    by : (b : Bool) → met.plan.stop ≡ b → MetOnStop old new ⊎ (new.stopped ≡ old.stopped)
    by true is = inl (record { met = met; stops = is })
    by false is = inr (met.stopped ∙ ap (λ (b : Bool). old.stopped || b) is ∙ or_false old.stopped)

-- a disk that begins has no plan, and calls bring none
pub none_left : (old new : PlanState) → CameTo old new → old.plan ≡ None → new.plan ≡ None
none_left old new (inl waited) none = by new.plan (subst (λ (plan : Option Plan). WaitsOn plan new.plan) none waited.plan)
  where
    by : (now : Option Plan) → WaitsOn None now → now ≡ None
    by now waits = waits
none_left old new (inr met) none = met.gone

left_same : (plan : Option Plan) → IsLeftOf plan plan
left_same None = tt
left_same (Some plan) = (plan, refl, refl)

-- ### Both

pub are_same : (armed : Armed) → AreLeftOf armed armed
are_same armed = record { stored = left_same armed.stored; kept = left_same armed.kept }

-- a blank device without a plan takes the place of the data device
pub blank_left : {D : Type 0} (before was : Mounted (Planned D)) (disk : Planned D) → was ≡ before → (plan_state disk).plan ≡ None
    → AreLeftOf (armed_of before) (record { stored = (plan_state disk).plan; kept = (plan_state was.state.disk).plan })
blank_left {D} before was disk same gone = record {
  stored = gone_left (plan_state before.store.disk).plan (plan_state disk).plan gone;
  kept = subst (λ (it : Mounted (Planned D)). IsLeftOf (plan_state before.state.disk).plan (plan_state it.state.disk).plan) (sym same)
      (left_same (plan_state before.state.disk).plan);
}

pub both_rest : {D : Type 0} (server : Mounted (Planned D)) → BothCameTo server server
both_rest server = record { stored = CameTo-same (plan_state server.store.disk); kept = CameTo-same (plan_state server.state.disk) }

pub both_later : {D : Type 0} (first mid last : Mounted (Planned D)) → BothCameTo first mid → BothCameTo mid last → BothCameTo first last
both_later first mid last one two = record {
  stored = CameTo-later (plan_state first.store.disk) (plan_state mid.store.disk) (plan_state last.store.disk) one.stored two.stored;
  kept = CameTo-later (plan_state first.state.disk) (plan_state mid.state.disk) (plan_state last.state.disk) one.kept two.kept;
}

-- a step that uses up no plan
pub uses_none : {what : Step} {before now : Armed} → ((armed left : Armed) → left ≡ armed → Uses what armed left) → AreLeftOf before now
    → LeavesPlans what before now
uses_none {what} {before} {now} none rest = record { used = before; uses = none before before refl; rest = rest }

-- flags that compare as other ones are other ones
flags_itself : (stored kept : Bool) → flags.ghosts.eq (record { stored = stored; kept = kept }) (record { stored = stored; kept = kept }) ≡ true
flags_itself true true = refl
flags_itself true false = refl
flags_itself false true = refl
flags_itself false false = refl

pub flags_apart : (now before : Stops) → not (flags.ghosts.eq now before) ≡ true → now ≢ before
flags_apart now before differs same =
    let equal : flags.ghosts.eq now before ≡ true
    = ap (λ (it : Stops). flags.ghosts.eq it before) same ∙ flags_itself before.stored before.kept in
    let no : false ≡ true = sym (ap not equal) ∙ differs in cc

-- how often calls of both devices have failed, beneath the plans and by them
abbrev pub failures : {D : Type 0} → (D → ℕ) → Mounted (Planned D) → ℕ
failures faults server =
    faults (beneath server.store.disk) + (plan_state server.store.disk).strikes
    + (faults (beneath server.state.disk) + (plan_state server.state.disk).strikes)

module _ {D : Type 0} (old new : Mounted (Planned D)) (came : BothCameTo old new) where
  abbrev before : Armed
  before = armed_of old

  abbrev now : Armed
  now = armed_of new

  pub are_left : AreLeftOf before now
  are_left = record {
    stored = plan_left (plan_state old.store.disk) (plan_state new.store.disk) came.stored;
    kept = plan_left (plan_state old.state.disk) (plan_state new.state.disk) came.kept;
  }

  -- the data device met its plan
  stored_left : MetOnce (plan_state old.store.disk) (plan_state new.store.disk) → AreLeftOf (record before { stored = None }) now
  stored_left met = record { stored = gone_left None now.stored met.gone; kept = are_left.kept }

  stored_spends : (met : MetOnce (plan_state old.store.disk) (plan_state new.store.disk)) → Spends before (record before { stored = None })
  stored_spends met = record { which = Data; plan = met.plan; was = met.was; gone = refl }

  -- the state device did
  kept_left : MetOnce (plan_state old.state.disk) (plan_state new.state.disk) → AreLeftOf (record before { kept = None }) now
  kept_left met = record { stored = are_left.stored; kept = gone_left None now.kept met.gone }

  kept_spends : (met : MetOnce (plan_state old.state.disk) (plan_state new.state.disk)) → Spends before (record before { kept = None })
  kept_spends met = record { which = State; plan = met.plan; was = met.was; gone = refl }

  -- a plan that was used up, and what is left of both
  record Spent : Type 0 where
    used : Armed
    spends : Spends before used
    rest : AreLeftOf used now

  -- where calls failed, one of them met its plan, or a device beneath failed
  spent : (faults : D → ℕ) → failures faults old < failures faults new → Spent ⊎ (faults_beneath faults old < faults_beneath faults new)
  spent faults more = by came.stored came.kept
    where
      by : CameTo (plan_state old.store.disk) (plan_state new.store.disk) → CameTo (plan_state old.state.disk) (plan_state new.state.disk)
          → Spent ⊎ (faults_beneath faults old < faults_beneath faults new)
      by (inr met) other = inl (record { used = record before { stored = None }; spends = stored_spends met; rest = stored_left met })
      by (inl waited) (inr met) = inl (record { used = record before { kept = None }; spends = kept_spends met; rest = kept_left met })
      by (inl waited) (inl rests) = inr (let same = waited.strikes in let other = rests.strikes in omega (arith, more, same, other))

  -- so of a step that is a fault where a plan was met
  spent_by : (faults : D → ℕ) (what : Step) → ((armed left : Armed) → Spends armed left → Uses what armed left)
      → failures faults old < failures faults new → LeavesPlansOver faults what old new
  spent_by faults what uses more = elim (spent faults more) [
    | inl it ↦ inl (record { used = it.used; uses = uses before it.used it.spends; rest = it.rest })
    | inr beneath ↦ inr (beneath, are_left)
  ]

  -- so where the server was stopped, by a plan that stops it
  stopped_by : (commit : CommitEnd) → stops_of new ≢ stops_of old → LeavesPlans (StopIn commit) before now
  unfolding stored_spends kept_spends
  stopped_by commit differs =
      elim (on_stop (plan_state old.store.disk) (plan_state new.store.disk) came.stored) [
        | inl it ↦ record {
          used = record before { stored = None };
          uses = record { spends = stored_spends it.met; stops = it.stops };
          rest = stored_left it.met;
        }
        | inr same ↦ elim (on_stop (plan_state old.state.disk) (plan_state new.state.disk) came.kept) [
          | inl it ↦ record {
            used = record before { kept = None };
            uses = record { spends = kept_spends it.met; stops = it.stops };
            rest = kept_left it.met;
          }
          | inr other ↦ absurd (differs (λ i. record { stored = same i; kept = other i }))
        ]
      ]

  -- a job
  pub job_plans : (faults : D → ℕ) (end : WorkEnd) (stopped : Bool) → (IsFault (as_end end) → failures faults old < failures faults new)
      → (stopped ≡ true → stops_of new ≢ stops_of old) → LeavesPlansOver faults (job_ended (job_end end stopped)) old new
  job_plans faults Done stopped failed differs = inl (record { used = before; uses = refl; rest = are_left })
  job_plans faults (Fault commit) true failed differs = inl (stopped_by commit (differs refl))
  job_plans faults (Fault commit) false failed differs = spent_by faults (Work (Fault commit)) (λ armed left spends. spends) (failed tt)

  -- a boot
  pub boot_plans : (faults : D → ℕ) (end : WorkEnd) → (IsFault (as_end end) → failures faults old < failures faults new)
      → LeavesPlansOver faults (Boot (boot_end (as_end end))) old new
  boot_plans faults Done failed = inl (record { used = before; uses = refl; rest = are_left })
  boot_plans faults (Fault commit) failed = spent_by faults (Boot (Fault commit)) (λ armed left spends. spends) (failed tt)

-- where no device beneath a plan fails, a plan was met
pub never_beneath : {D : Type 0} (what : Step) (old new : Mounted (Planned D)) → LeavesPlansOver (λ _. 0) what old new
    → LeavesPlans what (armed_of old) (armed_of new)
never_beneath what old new (inl leaves) = leaves
never_beneath what old new (inr beneath) = absurd (let more = beneath.0 in omega (arith, more))
