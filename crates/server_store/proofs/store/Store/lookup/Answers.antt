use Rattle.std.proofs.Common.{}
use Rattle.server_store.proofs.Contents.{found-listed}
use Rattle.server_store.proofs.store.Store.lookup.Goals as goal

pub returns : goal.returns
returns g c =
    rw (← c.self.view_is) (found-listed (g.D.Disk.seen c.self.inside.disk)
    (record { map = c.args.map; block = c.args.block; epoch = c.args.epoch }) c.self.inside.ledger.entries c.lookup.result c.lookup.ensures.found)
