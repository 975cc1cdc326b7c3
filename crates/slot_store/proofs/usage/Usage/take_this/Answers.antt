use Rattle.std.proofs.Common.{◌≡◌, ◌<◌, ◌∙◌, false, length, get_or, slice_get, Some, sym, arith, rules}
use Rattle.std.proofs.lemmas.List.{get_or_default}
use Rattle.slot_store.proofs.Turns.{get-is, turn-taken_this}
use Rattle.slot_store.proofs.usage.Usage.take_this.Goals as goal

pub invariant_of-self : goal.invariant_of-self
invariant_of-self c =
    let u = c.self.inside in
    let within : c.args.slot < length u.used.items = omega (arith, c.if-slot-len.false) in
    let free : get_or u.used.items c.args.slot false ≡ false =
    sym (c.index.ensures ∙ get_or_default u.used.items c.args.slot c.index.result.now false within) ∙ c.if-index.false in
    rw (c.exchange.ensures.order, c.exchange.ensures.place)
    (turn-taken_this u.used.items u.order.items u.place.items u.taken c.args.slot c.self.invariant within free)

pub returns-clause-taken : goal.returns-clause-taken
returns-clause-taken c =
    let u = c.self.inside in
    let within : c.args.slot < length u.used.items = omega (arith, c.if-slot-len.false) in
    let free : get_or u.used.items c.args.slot false ≡ false =
    sym (c.index.ensures ∙ get_or_default u.used.items c.args.slot c.index.result.now false within) ∙ c.if-index.false in
    let is : slice_get c.args.self.now c.args.slot ≡ Some false = rw (← c.self.view_is) (get-is u.used.items c.args.slot false within free) in
    (λ _. is, λ _. search rules)
