-- Where the rows rise by number, to take one out leaves what is not at its number.
use Rattle.std.proofs.Common.{◌∙◌, ap}
use Rattle.std.specs.Ordering.{nat_cmp}
use Rattle.std.specs.Cmp.{nat_cmp_total}
use Rattle.petal_table.proofs.Rows.{remove_is_without}
use Rattle.petal_table.specs.Table.{without}
use Rattle.server_host.proofs.waiting.Waiting.answered.Goals as goal

pub returns : goal.returns
returns c =
    c.remove.ensures.entries ∙ remove_is_without nat_cmp_total _ _ c.len.ensures.ordered ∙ ap (λ t. without nat_cmp t c.args.number) c.self.view_is
