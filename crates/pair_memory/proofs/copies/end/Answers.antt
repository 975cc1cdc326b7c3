use Rattle.std.proofs.Common.{◌∙◌}
use Rattle.petal_table.proofs.Rows.{remove_is_without}
use Rattle.spec_rules.proofs.CellTables.{cell_cmp_total}
use Rattle.pair_memory.proofs.copies.end.Goals as goal

pub returns : goal.returns
returns c = c.remove.ensures.entries ∙ remove_is_without cell_cmp_total _ _ c.len.ensures.ordered
