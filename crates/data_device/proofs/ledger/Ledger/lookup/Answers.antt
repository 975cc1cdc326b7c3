use Rattle.data_device.proofs.Ledgers.{found-in_range}
use Rattle.data_device.proofs.ledger.Ledger.lookup.Goals as goal

pub returns-clause-in_range : goal.returns-clause-in_range
returns-clause-in_range c =
    let own = c.self.inside in
    rw (← c.self.view_is) (found-in_range own.map.entries own.tickets.items own.slots.used
    (record { map = c.args.map; block = c.args.block; epoch = c.args.epoch }) c.lookup.result c.self.invariant.0.accounts c.lookup.ensures)
