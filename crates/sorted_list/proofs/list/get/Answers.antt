use Rattle.std.proofs.Common.{◌∙◌, sym, ap, Some}
use Rattle.sorted_list.proofs.Orders.{found_gap, found_hit}
use Rattle.sorted_list.proofs.list.get.Goals as goal

pub returns-in-Ok : goal.returns-in-Ok
returns-in-Ok g c =
    ap Some c.index-items-at.is
    ∙ sym (found_hit g.T.Ord.cmp c.args.item.now c.args.items.now c.in-Ok.at c.index-items-at.result c.in-Ok.ensures.hit)

pub returns-in-Err : goal.returns-in-Err
returns-in-Err g c = sym (found_gap g.T.Ord.cmp c.args.item.now c.args.items.now c.in-Err.field-0 c.in-Err.ensures.gap)
