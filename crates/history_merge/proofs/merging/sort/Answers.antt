-- What the sort says, by the order of records.
use Rattle.std.proofs.Common.{rules}
use Rattle.std.proofs.lemmas.List.Sorted.{answers_always}
use Rattle.history_merge.proofs.Orders.{before, weak}
use Rattle.history_merge.proofs.merging.sort.Goals as goal

pub returns : goal.returns
returns c = record {
  shuffled = c.sort_by.ensures.permutation;
  sorted = c.in_ok-sort_by.ensures.sorted before weak (answers_always _ _ _ (λ f a r g h. search rules));
  stable = c.sort_by.ensures.stable before weak (answers_always _ _ _ (λ f a r g h. search rules));
}
