-- Where the rows rise by key, to take one out leaves what is not at its key.
use Rattle.std.proofs.Common.{◌∙◌, ap}
use Rattle.petal_table.proofs.Rows.{remove_is_without}
use Rattle.petal_table.specs.Table.{without}
use Rattle.petal_table.proofs.table.Table.remove.Goals as goal

pub returns-clause-rest : goal.returns-clause-rest
returns-clause-rest g c =
    c.remove.ensures.entries ∙ remove_is_without g.met.K.Ord.total _ _ c.len.ensures.ordered ∙ ap (λ t. without g.K.Ord.cmp t c.args.key.now) c.self.view_is
