use Rattle.data_device.proofs.Ledgers.{tickets-in_range, tickets-apart, entries-in_range}
use Rattle.data_device.proofs.ledger.Ledger.slots.Goals as goal

pub returns-clause-tickets : goal.returns-clause-tickets
returns-clause-tickets c =
    let own = c.self.inside in
    rw (← c.self.view_is) (tickets-in_range own.map.entries own.tickets.items own.slots.used c.self.invariant.0.accounts)

pub returns-clause-apart : goal.returns-clause-apart
returns-clause-apart c =
    let own = c.self.inside in
    rw (← c.self.view_is) (tickets-apart own.map.entries own.tickets.items own.slots.used c.self.invariant.0.accounts)

pub returns-clause-entries : goal.returns-clause-entries
returns-clause-entries c =
    let own = c.self.inside in
    rw (← c.self.view_is) (entries-in_range own.map.entries own.tickets.items own.slots.used c.self.invariant.0.accounts)
