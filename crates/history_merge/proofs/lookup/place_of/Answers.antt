-- The records before the letter's sender come first.
use Rattle.std.proofs.Common.{rules}
use Rattle.std.proofs.lemmas.List.Sorted.{IsPartitionPoint-from_clause}
use Rattle.std.specs.Ordering.{is_lt}
use Rattle.history_merge.specs.Recorded.{sender_cmp}
use Rattle.history_merge.proofs.Senders.{parted}
use Rattle.history_merge.proofs.lookup.place_of.Goals as goal

pub returns : goal.returns
returns c = λ sorted. IsPartitionPoint-from_clause (λ own. is_lt (sender_cmp own c.args.letter.now)) _ _ c.partition_point.ensures.partitioned
    (parted c.args.records.now c.args.letter.now sorted) (λ a r q k. search rules)
