-- So far the records before this one were right.
use Rattle.std.specs.List.{AllWithin}
use Rattle.history_merge.specs.Recorded.{ComesAsSent}
use Rattle.history_merge.proofs.merging.check_all.Given as goal

abbrev pub invariant-loop-own : goal.invariant-loop-own
invariant-loop-own l = AllWithin (λ own. ComesAsSent l.records own) l.records 0 l.own-index
