use Rattle.std.proofs.Common.{◌∙◌}
use Rattle.server_store.proofs.Contents.{is_listed}
use Rattle.server_store.proofs.store.Store.entries.Goals as goal

pub returns : goal.returns
returns g c =
    rw (← c.self.view_is) (c.entries.ensures ∙ c.map.ensures ∙ is_listed (g.D.Disk.seen c.self.inside.disk) c.self.inside.ledger.entries)
