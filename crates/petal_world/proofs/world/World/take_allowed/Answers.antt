-- An allowed step is taken, and its record is kept.
use Rattle.std.proofs.Common.{◌≡◌, false, sym, subst, ◌∙◌}
use Rattle.std.specs.Prelude.{option_copied}
use Rattle.spec_rules.specs.Jobs.{operator}
use Rattle.spec_rules.specs.World.{MayStep, next_line, setting_of}
use Rattle.spec_history.specs.Controls.{Obeys}
use Rattle.server_host.specs.Desks.{ended}
use Rattle.petal_world.specs.Errands.{Runs}
use Rattle.petal_world.specs.Play.{Play, errand_in, played, told_by, world_of}
use Rattle.petal_world.proofs.Errands.{errand_by}
use Rattle.petal_world.proofs.Playing.{can_so, kept_ended, kept_over, played_ended, told_ended}
use Rattle.petal_world.proofs.world.World.take_allowed.Goals as goal

pub take-requires : goal.take-requires
take-requires g c =
    let i = c.self.inside in
    let play : Play = record { script = i.script; records = i.records; phase = i.phase; floor = i.floor; over = i.over; free = i.free } in
    let going = subst (λ (p : Play). p.over ≡ false) (sym c.self.view_is) c.requires.going in
    let may = subst (λ (p : Play). MayStep (setting_of p.script) (world_of p) c.args.actor c.args.step.now) (sym c.self.view_is) c.requires.may in
    let obeys = subst (λ (p : Play). p.free ≡ false → Obeys c.args.actor c.args.step.now (world_of p) (errand_in p)) (sym c.self.view_is)
    c.requires.obeys in
    can_so play i.actors i.errand c.args.actor c.args.step.now c.self.invariant going may obeys

pub invariant_of-self : goal.invariant_of-self
invariant_of-self g c =
    let i = c.self.inside in
    let play : Play = record { script = i.script; records = i.records; phase = i.phase; floor = i.floor; over = i.over; free = i.free } in
    let going = subst (λ (p : Play). p.over ≡ false) (sym c.self.view_is) c.requires.going in
    let may = subst (λ (p : Play). MayStep (setting_of p.script) (world_of p) c.args.actor c.args.step.now) (sym c.self.view_is) c.requires.may in
    let obeys = subst (λ (p : Play). p.free ≡ false → Obeys c.args.actor c.args.step.now (world_of p) (errand_in p)) (sym c.self.view_is)
    c.requires.obeys in
    let runs = subst (λ (p : Play). Runs (world_of p) c.args.actor c.runs.result) (sym c.self.view_is)
    (c.runs.ensures c.requires.going c.args.step.now c.requires.may) in
    let line = subst (λ (p : Play). option_copied c.next_order.result ≡ next_line p.script.lines operator ((world_of p).clients operator))
    (sym c.self.view_is) (c.next_order.ensures c.requires.going) in
    let noted = c.after-errand.ensures
    ∙ errand_by (setting_of play.script) (world_of play) c.args.actor c.args.step.now i.errand c.runs.result (option_copied c.next_order.result)
    runs line in
    kept_ended play i.actors i.errand c.args.actor c.args.step.now c.self.invariant going may obeys c.take.new.actors
    c.in-Ok.stepped.end c.stamp_of-stamp.result
    c.phase_for-phase.result c.in-Ok.stepped c.after-errand.result c.stamp_of-stamp.ensures c.phase_for-phase.ensures c.in-Ok.ensures.ok.1
    c.in-Ok.ensures.plans noted c.take.new.records c.in-Ok.ensures.ok.0

pub returns-in-Ok-clause-told : goal.returns-in-Ok-clause-told
returns-in-Ok-clause-told g c =
    let i = c.self.inside in
    let play : Play = record { script = i.script; records = i.records; phase = i.phase; floor = i.floor; over = i.over; free = i.free } in
    let going = subst (λ (p : Play). p.over ≡ false) (sym c.self.view_is) c.requires.going in
    let may = subst (λ (p : Play). MayStep (setting_of p.script) (world_of p) c.args.actor c.args.step.now) (sym c.self.view_is) c.requires.may in
    let obeys = subst (λ (p : Play). p.free ≡ false → Obeys c.args.actor c.args.step.now (world_of p) (errand_in p)) (sym c.self.view_is)
    c.requires.obeys in
    let runs = subst (λ (p : Play). Runs (world_of p) c.args.actor c.runs.result) (sym c.self.view_is)
    (c.runs.ensures c.requires.going c.args.step.now c.requires.may) in
    let line = subst (λ (p : Play). option_copied c.next_order.result ≡ next_line p.script.lines operator ((world_of p).clients operator))
    (sym c.self.view_is) (c.next_order.ensures c.requires.going) in
    let noted = c.after-errand.ensures
    ∙ errand_by (setting_of play.script) (world_of play) c.args.actor c.args.step.now i.errand c.runs.result (option_copied c.next_order.result)
    runs line in
    subst (λ (p : Play). c.in-Ok.stepped ≡ told_by p c.args.actor (ended c.args.step.now c.in-Ok.stepped.end)) c.self.view_is
    (told_ended play i.actors i.errand c.args.actor c.args.step.now c.self.invariant going may obeys c.take.new.actors
    c.in-Ok.stepped.end c.stamp_of-stamp.result
    c.phase_for-phase.result c.in-Ok.stepped c.after-errand.result c.stamp_of-stamp.ensures c.phase_for-phase.ensures c.in-Ok.ensures.ok.1
    c.in-Ok.ensures.plans noted)

pub returns-in-Ok-clause-ok : goal.returns-in-Ok-clause-ok
returns-in-Ok-clause-ok g c =
    let i = c.self.inside in
    let play : Play = record { script = i.script; records = i.records; phase = i.phase; floor = i.floor; over = i.over; free = i.free } in
    let going = subst (λ (p : Play). p.over ≡ false) (sym c.self.view_is) c.requires.going in
    let may = subst (λ (p : Play). MayStep (setting_of p.script) (world_of p) c.args.actor c.args.step.now) (sym c.self.view_is) c.requires.may in
    let obeys = subst (λ (p : Play). p.free ≡ false → Obeys c.args.actor c.args.step.now (world_of p) (errand_in p)) (sym c.self.view_is)
    c.requires.obeys in
    let runs = subst (λ (p : Play). Runs (world_of p) c.args.actor c.runs.result) (sym c.self.view_is)
    (c.runs.ensures c.requires.going c.args.step.now c.requires.may) in
    let line = subst (λ (p : Play). option_copied c.next_order.result ≡ next_line p.script.lines operator ((world_of p).clients operator))
    (sym c.self.view_is) (c.next_order.ensures c.requires.going) in
    let noted = c.after-errand.ensures
    ∙ errand_by (setting_of play.script) (world_of play) c.args.actor c.args.step.now i.errand c.runs.result (option_copied c.next_order.result)
    runs line in
    let new : Play =
    record { script = i.script; records = c.take.new.records; phase = i.phase; floor = i.floor; over = i.over; free = i.free } in
    subst (λ (p : Play). new ≡ played p c.args.actor (ended c.args.step.now c.in-Ok.stepped.end)) c.self.view_is
    (played_ended play i.actors i.errand c.args.actor c.args.step.now c.self.invariant going may obeys c.take.new.actors
    c.in-Ok.stepped.end c.stamp_of-stamp.result
    c.phase_for-phase.result c.in-Ok.stepped c.after-errand.result c.stamp_of-stamp.ensures c.phase_for-phase.ensures c.in-Ok.ensures.ok.1
    c.in-Ok.ensures.plans noted c.take.new.records c.in-Ok.ensures.ok.0)

pub invariant_of-self-in-Err : goal.invariant_of-self-in-Err
invariant_of-self-in-Err g c =
    let i = c.self.inside in
    let play : Play = record { script = i.script; records = i.records; phase = i.phase; floor = i.floor; over = i.over; free = i.free } in
    kept_over play i.actors c.take.new.actors i.errand i.errand c.self.invariant c.take.new.records c.in-Err.ensures.err
