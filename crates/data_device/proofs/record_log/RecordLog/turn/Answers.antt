use Rattle.std.proofs.Common.{◌≡◌, ◌∙◌, refl, sym, ap, arith}
use Rattle.std.proofs.lemmas.List.{length-map}
use Rattle.petal_disk.proofs.Moments.{weaker}
use Rattle.data_device.specs.Spelling.{spelling}
use Rattle.data_device.specs.Device.{Log, bodies_of}
use Rattle.data_device.specs.Kept.{kept_of}
use Rattle.data_device.specs.Turned.{list_of, turned}
use Rattle.data_device.proofs.Devices.{changed, in_journal, left_by_change, left_by_fault, news_of_list}
use Rattle.data_device.proofs.Turning.{turned_keeps}
use Rattle.data_device.proofs.record_log.RecordLog.turn.Goals as goal

pub turn-requires-clause-few : goal.turn-requires-clause-few
turn-requires-clause-few g c κs within =
    let few = c.len-records.ensures.few in
    let value = c.len-records.ensures.value in
    let bodies = length-map (turned c.args.list.now) spelling in
    omega (arith, few, value, bodies)

pub returns-in_err-turn-clause-outside : goal.returns-in_err-turn-clause-outside
returns-in_err-turn-clause-outside g c observed = in_journal c.self.inside.halves.base _ _ c.self.invariant (c.turn.ensures.outside observed)

pub returns-in_err-turn-clause-crash : goal.returns-in_err-turn-clause-crash
returns-in_err-turn-clause-crash g c observed slots = rw (← c.self.view_is) (λ h x i.
    let log : Log = record { fresh = c.self.inside.fresh; records = c.self.inside.history.items; halves = c.self.inside.halves } in
    let is : c.args.list.now ≡ list_of log.fresh (kept_of log.fresh log.records) = rw (← c.self.view_is) at c.requires.list in
    let new = news_of_list slots log _ _ c.args.list.now is h in
    let laws = g.met.D.Disk g.world.𝓛 g.world.𝓜 g.world.𝓡 ((λ s x. x), (λ x. x), (λ x. x), λ x. x) in
    let moments = c.turn.ensures.any_moment observed (bodies_of log.records) h.stored in
    let l = left_by_change slots log _ _ _ _ new c.self.invariant h x (moments.each x (laws.counts_now c.turn.new.disk _ x moments.later i)) in
    (l.from, l.from_left, l.outside))

pub returns-in_err-turn-clause-any_moment : goal.returns-in_err-turn-clause-any_moment
returns-in_err-turn-clause-any_moment g c observed slots = rw (← c.self.view_is) (λ h.
    let log : Log = record { fresh = c.self.inside.fresh; records = c.self.inside.history.items; halves = c.self.inside.halves } in
    let is : c.args.list.now ≡ list_of log.fresh (kept_of log.fresh log.records) = rw (← c.self.view_is) at c.requires.list in
    let new = news_of_list slots log _ _ c.args.list.now is h in
    weaker g.D.Disk.moment g.D.Disk.left_since _ _ _ _ (c.turn.ensures.any_moment observed (bodies_of log.records) h.stored)
    (left_by_change slots log _ _ _ _ new c.self.invariant h))

pub returns-in_err-turn-clause-either : goal.returns-in_err-turn-clause-either
returns-in_err-turn-clause-either g c observed slots = rw (← c.self.view_is) (λ h.
    let log : Log = record { fresh = c.self.inside.fresh; records = c.self.inside.history.items; halves = c.self.inside.halves } in
    let is : c.args.list.now ≡ list_of log.fresh (kept_of log.fresh log.records) = rw (← c.self.view_is) at c.requires.list in
    let new = news_of_list slots log _ _ c.args.list.now is h in
    left_by_fault slots log _ _ _ _ new c.self.invariant h _ (c.turn.ensures.outside observed) (c.turn.ensures.either observed (bodies_of log.records) h.stored))

pub returns-clause-kept : goal.returns-clause-kept
returns-clause-kept g c =
    rw (← c.self.view_is, c.after_turn-self-inside.ensures) (turned_keeps c.self.inside.fresh c.self.inside.history.items)

pub returns-clause-logs : goal.returns-clause-logs
returns-clause-logs g c observed slots = rw (← c.self.view_is) (λ h.
    let log : Log = record { fresh = c.self.inside.fresh; records = c.self.inside.history.items; halves = c.self.inside.halves } in
    let is : c.args.list.now ≡ list_of log.fresh (kept_of log.fresh log.records) = rw (← c.self.view_is) at c.requires.list in
    let new = news_of_list slots log _ _ c.args.list.now is h in
    let laws = g.met.D.Disk g.world.𝓛 g.world.𝓜 g.world.𝓡 ((λ s x. x), (λ x. x), (λ x. x), λ x. x) in
    let moments = c.turn.ensures.any_moment observed (bodies_of log.records) h.stored in
    let log' : Log = record { fresh = log.fresh; records = c.after_turn-self-inside.result.items; halves = c.turn.new.self } in
    let are = c.after_turn-self-inside.ensures ∙ sym (ap turned is) in
    changed slots log _ _ _ _ new c.self.invariant h log' _ _ c.turn.ensures.place are refl (c.turn.ensures.outside observed)
    (c.in_ok-turn.ensures.turned observed (bodies_of log.records) h.stored)
    (λ x i. moments.each x (laws.counts_now c.turn.new.disk _ x moments.later i)))

pub returns-clause-outside : goal.returns-clause-outside
returns-clause-outside g c observed = in_journal c.self.inside.halves.base _ _ c.self.invariant (c.turn.ensures.outside observed)

pub returns-clause-crash : goal.returns-clause-crash
returns-clause-crash g c observed slots = rw (← c.self.view_is) (λ h x i.
    let log : Log = record { fresh = c.self.inside.fresh; records = c.self.inside.history.items; halves = c.self.inside.halves } in
    let is : c.args.list.now ≡ list_of log.fresh (kept_of log.fresh log.records) = rw (← c.self.view_is) at c.requires.list in
    let new = news_of_list slots log _ _ c.args.list.now is h in
    let laws = g.met.D.Disk g.world.𝓛 g.world.𝓜 g.world.𝓡 ((λ s x. x), (λ x. x), (λ x. x), λ x. x) in
    let moments = c.turn.ensures.any_moment observed (bodies_of log.records) h.stored in
    let l = left_by_change slots log _ _ _ _ new c.self.invariant h x (moments.each x (laws.counts_now c.turn.new.disk _ x moments.later i)) in
    (l.from, l.from_left, l.outside))

pub returns-clause-any_moment : goal.returns-clause-any_moment
returns-clause-any_moment g c observed slots = rw (← c.self.view_is) (λ h.
    let log : Log = record { fresh = c.self.inside.fresh; records = c.self.inside.history.items; halves = c.self.inside.halves } in
    let is : c.args.list.now ≡ list_of log.fresh (kept_of log.fresh log.records) = rw (← c.self.view_is) at c.requires.list in
    let new = news_of_list slots log _ _ c.args.list.now is h in
    weaker g.D.Disk.moment g.D.Disk.left_since _ _ _ _ (c.turn.ensures.any_moment observed (bodies_of log.records) h.stored)
    (left_by_change slots log _ _ _ _ new c.self.invariant h))

pub returns-clause-either : goal.returns-clause-either
returns-clause-either g c observed slots = rw (← c.self.view_is) (λ h.
    let log : Log = record { fresh = c.self.inside.fresh; records = c.self.inside.history.items; halves = c.self.inside.halves } in
    let is : c.args.list.now ≡ list_of log.fresh (kept_of log.fresh log.records) = rw (← c.self.view_is) at c.requires.list in
    let new = news_of_list slots log _ _ c.args.list.now is h in
    left_by_fault slots log _ _ _ _ new c.self.invariant h _ (c.turn.ensures.outside observed) (c.turn.ensures.either observed (bodies_of log.records) h.stored))
