use Rattle.std.proofs.Common.{◌∙◌, ℕ, List, Option, ap, map}
use Rattle.busy_marks.specs.Marks.{next_marked_map}
use Rattle.physical_map.specs.declared.entry.Entry.{Entry}
use Rattle.physical_map.specs.Entries.{lesser, next_map_of}
use Rattle.server_store.specs.Holdings.{listed, held_in}
use Rattle.server_store.proofs.Contents.{is_listed}
use Rattle.server_store.proofs.store.Store.next_map.Goals as goal

pub returns : goal.returns
returns g c =
    let own = c.self.inside in
    let es = listed (map (held_in (g.D.Disk.seen own.disk)) own.ledger.entries) in
    let marks = next_marked_map c.args.after own.marks.marks in
    let entries = c.next_map.ensures
    ∙ ap (λ (l : List Entry). next_map_of c.args.after l) (c.map.ensures ∙ is_listed (g.D.Disk.seen own.disk) own.ledger.entries) in
    rw (← c.self.view_is) (c.lesser_of.ensures ∙ ap (λ (o : Option ℕ). lesser o c.next_map-2.result) entries
    ∙ ap (λ (o : Option ℕ). lesser (next_map_of c.args.after es) o) c.next_map-2.ensures)
