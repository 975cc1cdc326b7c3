use Rattle.std.proofs.Common.{◌∙◌, sym, subst}
use Rattle.std.specs.List.Sorted.{IsStrictlySortedBy}
use Rattle.sorted_list.specs.Lists.{Gap, Hit}
use Rattle.sorted_list.proofs.Orders.{removed_gap, removed_hit, removed_sorted}
use Rattle.sorted_list.proofs.list.take_out.Goals as goal

pub returns-in-Ok-clause-items : goal.returns-in-Ok-clause-items
returns-in-Ok-clause-items g c =
    let hit : Hit g.T.Ord.cmp c.args.item.now c.args.items.now.items c.in-Ok.at = rw (← c.deref.ensures.value) c.in-Ok.ensures.hit in
    c.remove.ensures.items ∙ sym (removed_hit g.T.Ord.cmp c.args.item.now c.args.items.now.items c.in-Ok.at hit)

pub returns-in-Ok-clause-order : goal.returns-in-Ok-clause-order
returns-in-Ok-clause-order g c =
    subst (λ xs. IsStrictlySortedBy g.T.Ord.cmp xs) (sym (returns-in-Ok-clause-items g c))
    (removed_sorted g.T.Ord.cmp c.args.item.now c.args.items.now.items c.requires)

pub returns-in_default-clause-items : goal.returns-in_default-clause-items
returns-in_default-clause-items g c =
    let gap : Gap g.T.Ord.cmp c.args.item.now c.args.items.now.items c.in_default.field-0 = rw (← c.deref.ensures.value) c.in_default.ensures.gap in
    sym (removed_gap g.T.Ord.cmp c.args.item.now c.args.items.now.items c.in_default.field-0 gap)
