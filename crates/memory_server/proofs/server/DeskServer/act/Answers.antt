use Rattle.std.proofs.Common.{inl, sym, ap, subst, ◌∙◌}
use Rattle.std.proofs.lemmas.Result.{IfOk-weaker, on_ok_weaker}
use Rattle.kept_chains.specs.Kept.{store_of}
use Rattle.spec_rules.specs.Jobs.{Acted}
use Rattle.memory_server.specs.Server.{left_at}
use Rattle.server_host.specs.Desks.{Site}
use Rattle.spec_rules.specs.Plans.{AreLeftOf}
use Rattle.server_host.specs.declared.host.HostResult.{HostResult}
use Rattle.memory_server.proofs.Plans.{are_left, are_same, uses_none}
use Rattle.memory_server.specs.Armed.{armed_of}
use Rattle.memory_server.proofs.server.DeskServer.act.Goals as goal

pub returns-in-Tick-clause-site : goal.returns-in-Tick-clause-site
returns-in-Tick-clause-site g c =
    rw c.in-Tick.is (on_ok_weaker c.tick.result (λ is observed. ap (λ (site : Site). left_at site) (is observed)) c.tick.ensures.site)

pub returns-in_ok-glance-in-Glance-clause-letters : goal.returns-in_ok-glance-in-Glance-clause-letters
returns-in_ok-glance-in-Glance-clause-letters g c = λ observed.
    let it = c.self-in-Glance.inside in
    rw (c.in-Glance.is, ← c.self-in-Glance.view_is)
    (ap (λ (taken : HostResult). taken.letters) c.done-in-Glance.ensures
    ∙ ap (λ (acted : Acted). acted.letters) (c.in_ok-glance-in-Glance.ensures (store_of it.store) it.state.records))

-- ### The plans

pub returns-in-Call-clause-plans : goal.returns-in-Call-clause-plans
returns-in-Call-clause-plans g c = rw c.in-Call.is (inl (uses_none (λ armed left same. same) (are_same (armed_of c.args.self.now))))

pub returns-in_ok-deliver-in-Deliver-clause-plans : goal.returns-in_ok-deliver-in-Deliver-clause-plans
returns-in_ok-deliver-in-Deliver-clause-plans g c =
    rw (c.in-Deliver.is, ← c.self.view_is) (inl (uses_none (λ armed left same. same) (are_same _)))

pub returns-in_ok-glance-in-Glance-clause-plans : goal.returns-in_ok-glance-in-Glance-clause-plans
returns-in_ok-glance-in-Glance-clause-plans g c = rw c.in-Glance.is (inl (uses_none (λ armed left same. same) (are_same (armed_of c.args.self.now))))

pub returns-in-Tick-clause-plans : goal.returns-in-Tick-clause-plans
returns-in-Tick-clause-plans g c =
    rw c.in-Tick.is
    (IfOk-weaker c.tick.result _ _ (λ taken end. inl (uses_none (λ armed left same. same) (are_left c.args.self.now c.tick.new.self c.tick.ensures.run)))
    c.tick.ensures.end)

pub returns-in_ok-stop-in-Stop-clause-plans : goal.returns-in_ok-stop-in-Stop-clause-plans
returns-in_ok-stop-in-Stop-clause-plans g c =
    let before = armed_of c.args.self.now in
    rw c.in-Stop.is (inl (uses_none (λ armed left same. same) (subst (AreLeftOf before) (sym c.stop.ensures.plans) (are_same before))))

-- an arming puts its plan in the place of an earlier one
pub returns-in-Arm-clause-plans : goal.returns-in-Arm-clause-plans
returns-in-Arm-clause-plans g c =
    let now = armed_of c.arm.new.self in rw c.in-Arm.is (inl (record { used = now; uses = c.arm.ensures.plans; rest = are_same now }))
