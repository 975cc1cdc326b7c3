use Rattle.std.proofs.Common.{◌≡◌, ◌∙◌, ◌<◌, length, get_or, arith}
use Rattle.std.proofs.lemmas.List.{get_or_default}
use Rattle.slot_store.proofs.Turns.{next-free, turn-taken}
use Rattle.slot_store.proofs.usage.Usage.take.Goals as goal

pub invariant_of-self : goal.invariant_of-self
invariant_of-self c =
    let u = c.self.inside in
    let more : u.taken < length u.used.items = omega (arith, c.if-self-len.false, c.self.invariant.ordered) in
    let is : c.index-slot.result.now ≡ get_or u.order.items u.taken 0 = c.index-slot.ensures
    ∙ get_or_default u.order.items u.taken c.index-slot.result.now 0 (omega (arith, more, c.self.invariant.ordered)) in
    rw is (turn-taken u.used.items u.order.items u.place.items u.taken c.self.invariant more)

pub returns-clause-free : goal.returns-clause-free
returns-clause-free c =
    let u = c.self.inside in
    let more : u.taken < length u.used.items = omega (arith, c.if-self-len.false, c.self.invariant.ordered) in
    let is : c.index-slot.result.now ≡ get_or u.order.items u.taken 0 = c.index-slot.ensures
    ∙ get_or_default u.order.items u.taken c.index-slot.result.now 0 (omega (arith, more, c.self.invariant.ordered)) in
    rw (← c.self.view_is, is) (next-free u.used.items u.order.items u.place.items u.taken c.self.invariant more)
