use Rattle.std.proofs.Common.{◌∙◌, List, ap}
use Rattle.physical_map.specs.declared.entry.Entry.{Entry}
use Rattle.physical_map.specs.Entries.{map_entries}
use Rattle.server_store.proofs.Contents.{is_listed}
use Rattle.server_store.proofs.store.Store.of_map.Goals as goal

pub returns : goal.returns
returns g c =
    rw (← c.self.view_is)
    (c.of_map.ensures ∙ ap (λ (es : List Entry). map_entries c.args.map c.args.after es)
    (c.map.ensures ∙ is_listed (g.D.Disk.seen c.self.inside.disk) c.self.inside.ledger.entries))
