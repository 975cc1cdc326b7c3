-- A run of calls meets a plan at most once.
use Rattle.std.specs.Prelude.{◌≡◌, ◌||◌, Bool, Option, Some, None, refl}
use Rattle.std.proofs.Common.{inl, inr, arith, sym, ◌∙◌, ap, subst}
use Rattle.device_faults.specs.declared.plan.Plan.{Plan}
use Rattle.petal_disk.specs.Plans.{PlanState, WaitsOn, CameTo}

waits_same : (plan : Option Plan) → WaitsOn plan plan
waits_same None = refl
waits_same (Some plan) = (plan.at, omega arith, refl)

pub CameTo-same : (state : PlanState) → CameTo state state
CameTo-same state = inl (record { plan = waits_same state.plan; stopped = refl; strikes = refl })

waits_later : (a b c : Option Plan) → WaitsOn a b → WaitsOn b c → WaitsOn a c
waits_later None b c e f = none_first b c e f
  where
    none_first : (b c : Option Plan) → b ≡ None → WaitsOn b c → c ≡ None
    none_first None c e f = f
    none_first (Some q) c e f = absurd (cc)
waits_later (Some p) b c e f =
    let g : WaitsOn (Some (record p { at = e.0 })) c = subst (λ (o : Option Plan). WaitsOn o c) e.2 f in
    (g.0, omega (arith, e.1, g.1), g.2)

-- what the plan was at an earlier call
met_before : (a b : Option Plan) (plan : Plan) → WaitsOn a b → b ≡ Some plan → (first : Plan) × (a ≡ Some first) × (plan.stop ≡ first.stop)
met_before None b plan e is = absurd (let h : None ≡ Some plan = sym e ∙ is in cc)
met_before (Some p) b plan e is =
    (p, refl, let h : Some (record p { at = e.0 }) ≡ Some plan = sym e.2 ∙ is in let k : record p { at = e.0 } ≡ plan = cc in ap (λ (q : Plan). q.stop) (sym k))

still_none : (b c : Option Plan) → b ≡ None → WaitsOn b c → c ≡ None
still_none None c e f = f
still_none (Some q) c e f = absurd (cc)

pub CameTo-later : (first mid last : PlanState) → CameTo first mid → CameTo mid last → CameTo first last
CameTo-later first mid last one two = elim one [
  | inl waited ↦ elim two [
    | inl waits ↦ inl (record {
      plan = waits_later first.plan mid.plan last.plan waited.plan waits.plan;
      stopped = waits.stopped ∙ waited.stopped;
      strikes = waits.strikes ∙ waited.strikes;
    })
    | inr meets ↦
        let was = met_before first.plan mid.plan meets.plan waited.plan meets.was in
        inr (record {
          plan = was.0;
          was = was.1;
          gone = meets.gone;
          stopped = meets.stopped ∙ ap (λ (b : Bool). b || meets.plan.stop) waited.stopped ∙ ap (λ (b : Bool). first.stopped || b) was.2;
          strikes = omega (arith, meets.strikes, waited.strikes);
        })
  ]
  | inr met ↦ elim two [
    | inl waits ↦ inr (record {
      plan = met.plan;
      was = met.was;
      gone = still_none mid.plan last.plan met.gone waits.plan;
      stopped = waits.stopped ∙ met.stopped;
      strikes = omega (arith, waits.strikes, met.strikes);
    })
    | inr meets ↦ absurd (let h : None ≡ Some meets.plan = sym met.gone ∙ meets.was in cc)
  ]
]
