-- The plans that the records leave are at least those that the servers' devices have.
use Rattle.std.proofs.Common.{◌≡◌, Option, Some, None, refl, sym, ◌∙◌, subst}
use Rattle.device_faults.specs.declared.plan.Plan.{Plan}
use Rattle.device_faults.specs.declared.which.Which.{Which}
use Rattle.device_faults.specs.declared.which.Which.TheVariants.{Data, State}
use Rattle.spec_rules.specs.Plans.{Armed, AreLeftOf, IsLeftOf, LeavesPlans, Spends, Uses, plan_of, with_plan}
use Rattle.spec_rules.specs.declared.step.Step.{Step}
use Rattle.spec_rules.specs.declared.step.Step.TheVariants.{Work, StopIn, Boot, Arm}
use Rattle.spec_rules.specs.declared.step.WorkEnd.TheVariants as work_end

pub left_trans : (a b c : Option Plan) → IsLeftOf a b → IsLeftOf b c → IsLeftOf a c
left_trans a b None one two = tt
left_trans a b (Some plan) one two =
    let first = subst (λ (o : Option Plan). IsLeftOf a o) two.1 one in
    (first.0, first.1, two.2 ∙ first.2)

both_trans : (a b c : Armed) → AreLeftOf a b → AreLeftOf b c → AreLeftOf a c
both_trans a b c one two = record {
  stored = left_trans a.stored b.stored c.stored one.stored two.stored;
  kept = left_trans a.kept b.kept c.kept one.kept two.kept;
}

-- what is left once a plan is put in its place, or taken away
put_left : (which : Which) (plan : Option Plan) (left before now : Armed) → AreLeftOf left before → AreLeftOf (with_plan which plan before) now
    → AreLeftOf (with_plan which plan left) now
put_left Data plan left before now above rest =
    record { stored = rest.stored; kept = left_trans left.kept before.kept now.kept above.kept rest.kept }
put_left State plan left before now above rest =
    record { stored = left_trans left.stored before.stored now.stored above.stored rest.stored; kept = rest.kept }

-- the plan of a device was there before, and stopped the server likewise
was_there : (which : Which) (left before : Armed) (plan : Plan) → AreLeftOf left before → plan_of which before ≡ Some plan
    → (first : Plan) × (plan_of which left ≡ Some first) × (plan.stop ≡ first.stop)
was_there Data left before plan above was = subst (λ (o : Option Plan). IsLeftOf left.stored o) was above.stored
was_there State left before plan above was = subst (λ (o : Option Plan). IsLeftOf left.kept o) was above.kept

-- what is used of the plans that the records leave, where the devices have at most these
module _ (left before now : Armed) (above : AreLeftOf left before) where
  spends : (used : Armed) (s : Spends before used) → AreLeftOf used now
      → (next : Armed) × (t : Spends left next) × AreLeftOf next now × (s.plan.stop ≡ t.plan.stop)
  spends used s rest =
      let first = was_there s.which left before s.plan above s.was in (
        with_plan s.which None left,
        record { which = s.which; plan = first.0; was = first.1; gone = refl },
        put_left s.which None left before now above (subst (λ (a : Armed). AreLeftOf a now) s.gone rest),
        first.2,
      )

  rests : (used : Armed) → used ≡ before → AreLeftOf used now → (next : Armed) × (next ≡ left) × AreLeftOf next now
  rests used same rest = (left, refl, both_trans left before now above (subst (λ (a : Armed). AreLeftOf a now) same rest))

  uses_by : (what : Step) (used : Armed) → Uses what before used → AreLeftOf used now → (next : Armed) × Uses what left next × AreLeftOf next now
  uses_by (Arm which plan) used uses rest = (
    with_plan which plan left,
    refl,
    put_left which plan left before now above (subst (λ (a : Armed). AreLeftOf a now) uses rest),
  )
  uses_by (Work (work_end.Fault end)) used uses rest = let s = spends used uses rest in (s.0, s.1, s.2)
  uses_by (StopIn end) used uses rest =
      let s = spends used uses.spends rest in
      (s.0, record { spends = s.1; stops = sym s.3 ∙ uses.stops }, s.2)
  uses_by (Boot (work_end.Fault end)) used uses rest = let s = spends used uses rest in (s.0, s.1, s.2)
  uses_by (Work work_end.Done) used uses rest = rests used uses rest
  uses_by (Boot work_end.Done) used uses rest = rests used uses rest
  uses_by _ used uses rest = rests used uses rest

  pub plans_used : (what : Step) → LeavesPlans what before now → (next : Armed) × Uses what left next × AreLeftOf next now
  plans_used what leaves = uses_by what leaves.used leaves.uses leaves.rest
