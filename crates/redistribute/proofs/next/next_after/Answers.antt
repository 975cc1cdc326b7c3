use Rattle.std.proofs.Common.{None, Some, sym, ap, ◌∙◌, List}
use Rattle.petal_base.specs.declared.cell.Cell.{Cell}
use Rattle.petal_base.specs.Cells.{cell_of}
use Rattle.physical_map.specs.declared.entry.Entry.{Entry}
use Rattle.physical_map.specs.Entries.{chain_of}
use Rattle.server_store.specs.Holdings.{listed}
use Rattle.redistribute.specs.Next.{last_left}
use Rattle.redistribute.proofs.Firsts.{last_is, next_found}
use Rattle.redistribute.proofs.next.next_after.Goals as goal

pub returns-in-Some : goal.returns-in-Some
returns-in-Some g c =
    let state = c.args.here.now.state in
    let row = c.args.row.now in
    let region = c.args.moved in
    let last = c.args.last.now in
    let es = c.args.store.now.entries in
    c.last_left.ensures
    ∙ ap (λ (l : List Entry). last_left region last l) (c.chain_at.ensures ∙ ap (λ (cell : Cell). chain_of cell (listed es)) c.cell.ensures)
    ∙ last_is state row region last (cell_of c.in-Some.first) (listed es)
    ∙ next_found state row region last es c.free.ensures.order _ _ (Some c.in-Some.first) c.none_below.ensures c.of_map-entries.ensures
    (sym c.in-Some.is ∙ c.first_left.ensures)

pub returns-in-None : goal.returns-in-None
returns-in-None g c =
    next_found c.args.here.now.state c.args.row.now c.args.moved c.args.last.now c.args.store.now.entries c.free.ensures.order _ _ None
    c.none_below.ensures c.of_map-entries.ensures (sym c.in-None.is ∙ c.first_left.ensures)
