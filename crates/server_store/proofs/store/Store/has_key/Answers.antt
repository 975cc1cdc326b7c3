use Rattle.std.proofs.Common.{◌∙◌, List, is_some, ap}
use Rattle.physical_map.specs.declared.entry.Entry.{Entry}
use Rattle.physical_map.specs.Entries.{slot_of}
use Rattle.server_store.proofs.Contents.{is_listed}
use Rattle.server_store.proofs.store.Store.has_key.Goals as goal

pub returns : goal.returns
returns g c = rw (← c.self.view_is) (c.is_some.ensures ∙ ap is_some (c.slot.ensures
    ∙ ap (λ (l : List Entry). slot_of l c.args.key) (c.map.ensures ∙ is_listed (g.D.Disk.seen c.self.inside.disk) c.self.inside.ledger.entries)))
