use Rattle.std.proofs.Common.{◌≡◌, ◌<◌, true, length, slice_get, Some}
use Rattle.slot_store.proofs.Free.{within}
use Rattle.slot_store.proofs.Turns.{is-get, turn-given_this}
use Rattle.slot_store.proofs.usage.Usage.give.Goals as goal

pub invariant_of-self : goal.invariant_of-self
invariant_of-self c =
    let u = c.self.inside in
    let taking : slice_get u.used.items c.args.slot ≡ Some true = rw c.self.view_is c.requires in
    let inside : c.args.slot < length u.used.items = within u.used.items c.args.slot true taking in
    rw (c.exchange.ensures.order, c.exchange.ensures.place)
    (turn-given_this u.used.items u.order.items u.place.items u.taken c.args.slot c.self.invariant inside (is-get u.used.items c.args.slot true taking))
