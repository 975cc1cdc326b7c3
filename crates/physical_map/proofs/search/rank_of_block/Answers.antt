use Rattle.std.proofs.Common.{arith, rules, of_calls, sym}
use Rattle.std.proofs.lemmas.Fn.{always_returns_same}
use Rattle.std.proofs.lemmas.List.Sums.{prefix_len_is}
use Rattle.physical_map.specs.declared.entry.Entry.{Entry}
use Rattle.physical_map.specs.Next.{before_blocks}
use Rattle.physical_map.proofs.Nexts.{partitioned-blocks}
use Rattle.physical_map.proofs.search.rank_of_block.Goals as goal

abbrev first : Entry
first = record { key = record { map = 0; block = 0; epoch = 0 }; slot = 0; version = 0 }

pub returns-clause-rank : goal.returns-clause-rank
returns-clause-rank c =
    let es = c.args.entries.now in
    let map = c.args.map in
    let after = c.args.after in
    let point = c.partition_point.ensures.partitioned (λ (e : Entry). before_blocks map after e.key)
    (always_returns_same _ _ _ (λ a r f k. search (rules, of_calls))) (partitioned-blocks map after es c.requires) in
    sym (prefix_len_is (λ (e : Entry). before_blocks map after e.key) es c.partition_point.result first c.partition_point.ensures.bound
    (λ k l. point.0 k first (omega arith) l) (λ l. point.1 c.partition_point.result first (omega arith) l))
