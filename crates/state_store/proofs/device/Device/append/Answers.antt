use Rattle.std.proofs.Common.{◌∙◌}
use Rattle.petal_disk.proofs.Moments.{weaker}
use Rattle.state_store.specs.Device.{bodies_of}
use Rattle.state_store.proofs.Devices.{IsPlaced, stored, left_by_append, left_by_fault, appended}
use Rattle.state_store.proofs.device.Device.append.Goals as goal

pub returns-clause-holds : goal.returns-clause-holds
returns-clause-holds g c observed = rw (← c.self.view_is, c.with-self-inside.ensures) (λ h.
    let j = c.self.inside.journal in
    let at : IsPlaced j = record { base = c.self.invariant.0; limit = c.self.invariant.1 } in
    let at' : IsPlaced c.append.new.self =
    record { base = c.append.ensures.place.0 ∙ c.self.invariant.0; limit = c.append.ensures.place.1 ∙ c.self.invariant.1 } in
    let st = stored j _ _ c.self.inside.history.items at h in
    let moments = c.append.ensures.any_moment observed (bodies_of c.self.inside.history.items) st in
    appended j c.append.new.self _ _ _ _ c.self.inside.history.items c.args.entry.now c.body_of.result c.body_of.ensures.spelled c.body_of.ensures.has_body
    at at' h (c.append.ensures.outside observed) (c.in_ok-append.ensures.appended observed (bodies_of c.self.inside.history.items) st)
    (λ x i. moments.each x
    ((g.met.D.Disk g.world.𝓛 g.world.𝓜 g.world.𝓡 ((λ s x. x), (λ x. x), (λ x. x), λ x. x)).counts_now c.append.new.disk _ x moments.later i)))

pub returns-clause-either : goal.returns-clause-either
returns-clause-either g c observed = rw (← c.self.view_is) (λ h.
    let j = c.self.inside.journal in
    let at : IsPlaced j = record { base = c.self.invariant.0; limit = c.self.invariant.1 } in
    let st = stored j _ _ c.self.inside.history.items at h in
    left_by_fault j _ _ _ c.self.inside.history.items c.args.entry.now c.body_of.result c.body_of.ensures.spelled c.body_of.ensures.has_body
    at h (c.append.ensures.outside observed) (c.append.ensures.either observed (bodies_of c.self.inside.history.items) st))

pub returns-clause-any_moment : goal.returns-clause-any_moment
returns-clause-any_moment g c observed = rw (← c.self.view_is) (λ h.
    let j = c.self.inside.journal in
    let at : IsPlaced j = record { base = c.self.invariant.0; limit = c.self.invariant.1 } in
    let st = stored j _ _ c.self.inside.history.items at h in
    weaker g.D.Disk.moment g.D.Disk.left_since _ _ _ _ (c.append.ensures.any_moment observed (bodies_of c.self.inside.history.items) st)
    (left_by_append j _ _ c.self.inside.history.items c.args.entry.now c.body_of.result c.body_of.ensures.spelled c.body_of.ensures.has_body at h))

pub returns-in_err-append-clause-either : goal.returns-in_err-append-clause-either
returns-in_err-append-clause-either g c observed = rw (← c.self.view_is) (λ h.
    let j = c.self.inside.journal in
    let at : IsPlaced j = record { base = c.self.invariant.0; limit = c.self.invariant.1 } in
    let st = stored j _ _ c.self.inside.history.items at h in
    left_by_fault j _ _ _ c.self.inside.history.items c.args.entry.now c.body_of.result c.body_of.ensures.spelled c.body_of.ensures.has_body
    at h (c.append.ensures.outside observed) (c.append.ensures.either observed (bodies_of c.self.inside.history.items) st))

pub returns-in_err-append-clause-any_moment : goal.returns-in_err-append-clause-any_moment
returns-in_err-append-clause-any_moment g c observed = rw (← c.self.view_is) (λ h.
    let j = c.self.inside.journal in
    let at : IsPlaced j = record { base = c.self.invariant.0; limit = c.self.invariant.1 } in
    let st = stored j _ _ c.self.inside.history.items at h in
    weaker g.D.Disk.moment g.D.Disk.left_since _ _ _ _ (c.append.ensures.any_moment observed (bodies_of c.self.inside.history.items) st)
    (left_by_append j _ _ c.self.inside.history.items c.args.entry.now c.body_of.result c.body_of.ensures.spelled c.body_of.ensures.has_body at h))
