use Rattle.std.proofs.Common.{◌∙◌, List, ap, option_map}
use Rattle.std.specs.Prelude.{nat_eq}
use Rattle.std.specs.List.{find}
use Rattle.petal_base.specs.declared.cell.Cell.{Cell}
use Rattle.physical_map.specs.declared.entry.Entry.{Entry}
use Rattle.physical_map.specs.Entries.{chain_of}
use Rattle.server_store.specs.Holdings.{listed}
use Rattle.kept_chains.proofs.Walks.{version_found}
use Rattle.kept_chains.proofs.walk.version_at.Goals as goal

pub returns : goal.returns
returns g c =
    c.version_in.ensures
    ∙ ap (λ (es : List Entry). option_map (λ (e : Entry). e.version) (find (λ (e : Entry). nat_eq c.args.key.epoch e.key.epoch) es))
    (c.chain_at.ensures ∙ ap (λ (cell : Cell). chain_of cell (listed c.args.store.now.entries)) c.cell.ensures)
    ∙ version_found c.args.store.now.entries c.args.key c.free.ensures.order
