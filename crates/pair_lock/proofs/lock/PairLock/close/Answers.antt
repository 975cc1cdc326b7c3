use Rattle.std.proofs.Common.{◌∙◌, ap}
use Rattle.petal_table.specs.Table.{without}
use Rattle.petal_table.proofs.Rows.{remove_is_without}
use Rattle.spec_rules.specs.Store.{cell_cmp}
use Rattle.spec_rules.proofs.CellTables.{cell_cmp_total}
use Rattle.pair_lock.proofs.Pairs.{kept_by_remove, own_cell}
use Rattle.pair_lock.proofs.lock.PairLock.close.Goals as goal

pub invariant_of-self : goal.invariant_of-self
invariant_of-self c = rw c.remove.ensures.entries (kept_by_remove _ _ c.len.ensures.ordered c.self.invariant)

pub returns-clause-table : goal.returns-clause-table
returns-clause-table c = c.remove.ensures.entries ∙ remove_is_without cell_cmp_total _ _ c.len.ensures.ordered
    ∙ ap (λ t. without cell_cmp t c.args.cell) c.self.view_is

pub returns-clause-own : goal.returns-clause-own
returns-clause-own c = rw (← c.self.view_is) (own_cell _ c.args.cell c.self.invariant)
