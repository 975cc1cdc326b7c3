-- So far the lists before this one were added.
use Rattle.std.proofs.Common.{◌≡◌, take}
use Rattle.history_merge.specs.Order.{all_of}
use Rattle.history_merge.proofs.merging.all_again.Given as goal

abbrev pub invariant-loop-list : goal.invariant-loop-list
invariant-loop-list l = l.all.items ≡ all_of (take l.list-index l.lists)
