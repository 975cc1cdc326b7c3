-- So far the records before this one were added.
use Rattle.std.proofs.Common.{◌≡◌, ◌++◌, take}
use Rattle.history_merge.proofs.merging.add_again.Given as goal

abbrev pub invariant-loop-own : goal.invariant-loop-own
invariant-loop-own l = l.all.items ≡ l.fn.all.items ++ take l.own-index l.records
