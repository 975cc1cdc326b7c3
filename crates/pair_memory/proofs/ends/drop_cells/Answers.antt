use Rattle.std.proofs.Common.{not, rules}
use Rattle.std.proofs.lemmas.Map.Made.{filter_same_pairs}
use Rattle.pair_memory.specs.Ended.{cell_ends}
use Rattle.pair_memory.proofs.ends.drop_cells.Goals as goal

pub returns-clause-rows : goal.returns-clause-rows
returns-clause-rows g c =
    filter_same_pairs _ (λ row. not (cell_ends c.args.here.now.state c.args.next.now c.args.entry.now row.0)) _ (λ k v b w f' t. search rules)
    _ _ c.retain.ensures.filtered
