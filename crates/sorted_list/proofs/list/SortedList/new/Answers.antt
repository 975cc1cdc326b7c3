use Rattle.sorted_list.proofs.Orders.{none_sorted}
use Rattle.sorted_list.proofs.list.SortedList.new.Goals as goal

pub invariant_of-result : goal.invariant_of-result
invariant_of-result g c = none_sorted g.T.Ord.cmp c.new.result.items c.new.ensures.items
