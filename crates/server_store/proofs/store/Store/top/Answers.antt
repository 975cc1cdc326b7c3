use Rattle.std.proofs.Common.{◌∙◌, List, ap}
use Rattle.physical_map.specs.declared.entry.Entry.{Entry}
use Rattle.physical_map.specs.Entries.{top_of}
use Rattle.server_store.proofs.Contents.{is_listed}
use Rattle.server_store.proofs.store.Store.top.Goals as goal

pub returns : goal.returns
returns g c = rw (← c.self.view_is)
    (c.top.ensures ∙ ap (λ (l : List Entry). top_of l) (c.map.ensures ∙ is_listed (g.D.Disk.seen c.self.inside.disk) c.self.inside.ledger.entries))
