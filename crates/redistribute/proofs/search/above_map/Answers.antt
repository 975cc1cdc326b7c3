use Rattle.std.proofs.Common.{nat_le, drop, arith, rules, of_calls, ap, sym, ◌∙◌, ℕ}
use Rattle.std.proofs.lemmas.Fn.{always_returns_same}
use Rattle.std.proofs.lemmas.List.{take_rest}
use Rattle.std.proofs.lemmas.List.Sums.{prefix_len_is}
use Rattle.physical_map.specs.declared.entry.Entry.{Entry}
use Rattle.redistribute.proofs.Rests.{partitioned_maps}
use Rattle.redistribute.proofs.search.above_map.Goals as goal

abbrev first : Entry
first = record { key = record { map = 0; block = 0; epoch = 0 }; slot = 0; version = 0 }

pub returns : goal.returns
returns c =
    let es = c.args.entries.now in
    let map = c.args.map in
    let found = c.partition_point.result in
    let point = c.partition_point.ensures.partitioned (λ (e : Entry). nat_le e.key.map map)
    (always_returns_same _ _ _ (λ a r f k. search (rules, of_calls))) (partitioned_maps map es c.requires) in
    take_rest es found
    ∙ ap (λ (n : ℕ). drop n es) (sym (prefix_len_is (λ (e : Entry). nat_le e.key.map map) es found first c.partition_point.ensures.bound
    (λ k l. point.0 k first (omega arith) l) (λ l. point.1 found first (omega arith) l)))
