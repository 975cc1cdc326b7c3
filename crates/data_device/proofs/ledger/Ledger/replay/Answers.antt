use Rattle.std.proofs.Common.{◌≡◌, ◌∙◌, ℕ, ◌+◌, List, [], false, Some, Option, is_some, if◌then◌else◌, slice_get, length, sym, ap, subst, refl}
use Rattle.physical_map.specs.declared.entry.Entry.{Entry}
use Rattle.physical_map.specs.Entries.{slot_of}
use Rattle.data_device.specs.Accounts.{Accounts, Sound}
use Rattle.data_device.proofs.Ledgers.{free-fits, fits-free, used-replay, sound-replay, sound-wider}
use Rattle.data_device.proofs.ledger.Ledger.replay.Goals as goal

pub returns-then-not-take_this-clause-taken : goal.returns-then-not-take_this-clause-taken
returns-then-not-take_this-clause-taken c =
    let own = c.self.inside in
    let none : own.tickets.items ≡ [] = rw (← c.self.view_is) at c.requires in
    let accounts : Accounts own.map.entries [] own.slots.used = rw none at c.self.invariant.0.accounts in
    rw (← c.self.view_is) (λ lt apart.
    let free = fits-free own.map.entries own.slots.used c.args.entry.slot accounts lt apart in
    let taken = c.take_this.ensures.taken.1 free in
    let not : c.take_this.result ≡ false = c.if-not-take_this.true in cc)

pub give_if_any-requires : goal.give_if_any-requires
give_if_any-requires c =
    let own = c.self.inside in
    let e = c.args.entry in
    let none : own.tickets.items ≡ [] = rw (← c.self.view_is) at c.requires in
    let accounts : Accounts own.map.entries [] own.slots.used = rw none at c.self.invariant.0.accounts in
    let free : slice_get own.slots.used e.slot ≡ Some false = c.if-not-take_this.ensures.taken.0 refl in
    let replaced : c.put-replaced.result ≡ slot_of own.map.entries e.key = c.put-replaced.ensures.replaced
    ∙ ap (λ (l : List Entry). slot_of l e.key) c.reserve.ensures.entries in
    rw c.if-not-take_this.ensures.changed (used-replay own.map.entries own.slots.used e c.put-replaced.result free accounts replaced)

pub invariant_of-self-2 : goal.invariant_of-self-2
invariant_of-self-2 c =
    let own = c.self.inside in
    let e = c.args.entry in
    let none : own.tickets.items ≡ [] = rw (← c.self.view_is) at c.requires in
    let free : slice_get own.slots.used e.slot ≡ Some false = c.if-not-take_this.ensures.taken.0 refl in
    let replaced : c.put-replaced.result ≡ slot_of own.map.entries e.key = c.put-replaced.ensures.replaced
    ∙ ap (λ (l : List Entry). slot_of l e.key) c.reserve.ensures.entries in
    let zero : own.out ≡ 0 = c.self.invariant.0.counted ∙ ap length none in
    let wider = sound-wider own.map.entries own.tickets.items own.slots.used own.map.spare c.reserve.new.self.spare own.out
    c.reserve.ensures.spare c.self.invariant.0 in
    let sound = subst (λ (ts : List ℕ). Sound own.map.entries ts own.slots.used c.reserve.new.self.spare 0) none
    (subst (λ (n : ℕ). Sound own.map.entries own.tickets.items own.slots.used c.reserve.new.self.spare n) zero wider) in
    let room : c.put-replaced.new.self.spare + (if is_some (slot_of own.map.entries e.key) then 0 else 1) ≡ c.reserve.new.self.spare =
    ap (λ (o : Option ℕ). c.put-replaced.new.self.spare + (if is_some o then 0 else 1)) (sym replaced) ∙ c.put-replaced.ensures.spare in
    rw (c.give_if_any.ensures, c.put-replaced.ensures.entries, c.reserve.ensures.entries, replaced, c.if-not-take_this.ensures.changed, none, zero) (
      sound-replay own.map.entries own.slots.used e c.reserve.new.self.spare c.put-replaced.new.self.spare free c.in_ok-reserve.ensures.room room sound,
      c.self.invariant.1,
    )

pub returns-clause-fits : goal.returns-clause-fits
returns-clause-fits c =
    let own = c.self.inside in
    let none : own.tickets.items ≡ [] = rw (← c.self.view_is) at c.requires in
    let accounts : Accounts own.map.entries [] own.slots.used = rw none at c.self.invariant.0.accounts in
    rw (← c.self.view_is) (free-fits own.map.entries own.slots.used c.args.entry.slot (c.if-not-take_this.ensures.taken.0 refl) accounts)
