use Rattle.std.proofs.Common.{arith, not, rules, of_calls, sym}
use Rattle.std.proofs.lemmas.Fn.{always_returns_same}
use Rattle.std.proofs.lemmas.List.Sums.{prefix_len_is}
use Rattle.physical_map.specs.declared.entry.Entry.{Entry}
use Rattle.physical_map.specs.Entries.{key_of}
use Rattle.physical_map.specs.Keys.{key_below}
use Rattle.physical_map.proofs.Orders.{partitioned-following}
use Rattle.physical_map.proofs.search.rank_after.Goals as goal

pub returns-clause-rank : goal.returns-clause-rank
returns-clause-rank c =
    let es = c.args.entries.now in
    let key = c.args.key.now in
    let none : Entry = record { key = key; slot = 0; version = 0 } in
    let point = c.partition_point.ensures.partitioned (λ (e : Entry). not (key_below key e.key))
    (always_returns_same _ _ _ (λ a r f k. search (rules, of_calls))) (partitioned-following key_of es key c.requires) in
    sym (prefix_len_is (λ (e : Entry). not (key_below key e.key)) es c.partition_point.result none c.partition_point.ensures.bound
    (λ k l. point.0 k none (omega arith) l) (λ l. point.1 c.partition_point.result none (omega arith) l))
