use Rattle.data_device.proofs.Ledgers.{sound-reserve, free-apart}
use Rattle.data_device.proofs.ledger.Ledger.reserve.Goals as goal

pub invariant_of-self-in-Some : goal.invariant_of-self-in-Some
invariant_of-self-in-Some c =
    let own = c.self.inside in
    let slot = c.in-Some.slot in
    rw (c.with-self-inside.ensures, c.new-ticket.ensures, c.in-Some.ensures.taken, c.reserve.ensures.entries) (
      sound-reserve own.map.entries own.tickets.items own.slots.used slot own.map.spare c.reserve.new.self.spare own.out c.in-Some.ensures.free
          c.in_ok-reserve.ensures.room c.self.invariant.0,
      c.self.invariant.1,
    )

pub returns-in-Some-clause-other : goal.returns-in-Some-clause-other
returns-in-Some-clause-other c = rw (← c.self.view_is, c.new-ticket.ensures) (λ has.
    let own = c.self.inside in
    free-apart own.map.entries own.tickets.items own.slots.used c.in-Some.slot c.in-Some.ensures.free c.self.invariant.0.accounts has)
