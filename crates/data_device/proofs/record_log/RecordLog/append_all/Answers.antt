use Rattle.std.proofs.Common.{refl}
use Rattle.petal_disk.proofs.Moments.{weaker}
use Rattle.data_device.specs.Device.{Log, bodies_of}
use Rattle.data_device.proofs.Devices.{changed, in_journal, left_by_change, left_by_fault, news_more}
use Rattle.data_device.proofs.record_log.RecordLog.append_all.Goals as goal

pub returns-in_err-append_all-clause-outside : goal.returns-in_err-append_all-clause-outside
returns-in_err-append_all-clause-outside g c observed = in_journal c.self.inside.halves.base _ _ c.self.invariant (c.append_all.ensures.outside observed)

pub returns-in_err-append_all-clause-crash : goal.returns-in_err-append_all-clause-crash
returns-in_err-append_all-clause-crash g c observed slots = rw (← c.self.view_is) (λ h fit x i.
    let log : Log = record { fresh = c.self.inside.fresh; records = c.self.inside.history.items; halves = c.self.inside.halves } in
    let new = news_more slots log _ _ c.args.entries.now _ c.spell_all.ensures.spelled c.spell_all.ensures.fits fit h in
    let laws = g.met.D.Disk g.world.𝓛 g.world.𝓜 g.world.𝓡 ((λ s x. x), (λ x. x), (λ x. x), λ x. x) in
    let moments = c.append_all.ensures.any_moment observed (bodies_of log.records) h.stored in
    let l = left_by_change slots log _ _ _ _ new c.self.invariant h x (moments.each x (laws.counts_now c.append_all.new.disk _ x moments.later i)) in
    (l.from, l.from_left, l.outside))

pub returns-in_err-append_all-clause-any_moment : goal.returns-in_err-append_all-clause-any_moment
returns-in_err-append_all-clause-any_moment g c observed slots = rw (← c.self.view_is) (λ h fit.
    let log : Log = record { fresh = c.self.inside.fresh; records = c.self.inside.history.items; halves = c.self.inside.halves } in
    let new = news_more slots log _ _ c.args.entries.now _ c.spell_all.ensures.spelled c.spell_all.ensures.fits fit h in
    weaker g.D.Disk.moment g.D.Disk.left_since _ _ _ _ (c.append_all.ensures.any_moment observed (bodies_of log.records) h.stored)
    (left_by_change slots log _ _ _ _ new c.self.invariant h))

pub returns-in_err-append_all-clause-either : goal.returns-in_err-append_all-clause-either
returns-in_err-append_all-clause-either g c observed slots = rw (← c.self.view_is) (λ h fit.
    let log : Log = record { fresh = c.self.inside.fresh; records = c.self.inside.history.items; halves = c.self.inside.halves } in
    let new = news_more slots log _ _ c.args.entries.now _ c.spell_all.ensures.spelled c.spell_all.ensures.fits fit h in
    left_by_fault slots log _ _ _ _ new c.self.invariant h _ (c.append_all.ensures.outside observed)
    (c.append_all.ensures.either observed (bodies_of log.records) h.stored))

pub returns-clause-logs : goal.returns-clause-logs
returns-clause-logs g c observed slots = rw (← c.self.view_is) (λ h fit.
    let log : Log = record { fresh = c.self.inside.fresh; records = c.self.inside.history.items; halves = c.self.inside.halves } in
    let new = news_more slots log _ _ c.args.entries.now _ c.spell_all.ensures.spelled c.spell_all.ensures.fits fit h in
    let laws = g.met.D.Disk g.world.𝓛 g.world.𝓜 g.world.𝓡 ((λ s x. x), (λ x. x), (λ x. x), λ x. x) in
    let moments = c.append_all.ensures.any_moment observed (bodies_of log.records) h.stored in
    let log' : Log = record { fresh = log.fresh; records = c.add_all.new.history.items; halves = c.append_all.new.self } in
    changed slots log _ _ _ _ new c.self.invariant h log' _ _ c.append_all.ensures.place c.add_all.ensures refl (c.append_all.ensures.outside observed)
    (c.in_ok-append_all.ensures.appended observed (bodies_of log.records) h.stored)
    (λ x i. moments.each x (laws.counts_now c.append_all.new.disk _ x moments.later i)))

pub returns-clause-outside : goal.returns-clause-outside
returns-clause-outside g c observed = in_journal c.self.inside.halves.base _ _ c.self.invariant (c.append_all.ensures.outside observed)

pub returns-clause-crash : goal.returns-clause-crash
returns-clause-crash g c observed slots = rw (← c.self.view_is) (λ h fit x i.
    let log : Log = record { fresh = c.self.inside.fresh; records = c.self.inside.history.items; halves = c.self.inside.halves } in
    let new = news_more slots log _ _ c.args.entries.now _ c.spell_all.ensures.spelled c.spell_all.ensures.fits fit h in
    let laws = g.met.D.Disk g.world.𝓛 g.world.𝓜 g.world.𝓡 ((λ s x. x), (λ x. x), (λ x. x), λ x. x) in
    let moments = c.append_all.ensures.any_moment observed (bodies_of log.records) h.stored in
    let l = left_by_change slots log _ _ _ _ new c.self.invariant h x (moments.each x (laws.counts_now c.append_all.new.disk _ x moments.later i)) in
    (l.from, l.from_left, l.outside))

pub returns-clause-any_moment : goal.returns-clause-any_moment
returns-clause-any_moment g c observed slots = rw (← c.self.view_is) (λ h fit.
    let log : Log = record { fresh = c.self.inside.fresh; records = c.self.inside.history.items; halves = c.self.inside.halves } in
    let new = news_more slots log _ _ c.args.entries.now _ c.spell_all.ensures.spelled c.spell_all.ensures.fits fit h in
    weaker g.D.Disk.moment g.D.Disk.left_since _ _ _ _ (c.append_all.ensures.any_moment observed (bodies_of log.records) h.stored)
    (left_by_change slots log _ _ _ _ new c.self.invariant h))

pub returns-clause-either : goal.returns-clause-either
returns-clause-either g c observed slots = rw (← c.self.view_is) (λ h fit.
    let log : Log = record { fresh = c.self.inside.fresh; records = c.self.inside.history.items; halves = c.self.inside.halves } in
    let new = news_more slots log _ _ c.args.entries.now _ c.spell_all.ensures.spelled c.spell_all.ensures.fits fit h in
    left_by_fault slots log _ _ _ _ new c.self.invariant h _ (c.append_all.ensures.outside observed)
    (c.append_all.ensures.either observed (bodies_of log.records) h.stored))
