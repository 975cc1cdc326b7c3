use Rattle.std.proofs.Common.{◌∙◌, inl, inr, sym, subst, arith}
use Rattle.std.specs.List.Sorted.{IsStrictlySortedBy}
use Rattle.sorted_list.specs.Lists.{Gap, Hit}
use Rattle.sorted_list.proofs.Orders.{found_gap, found_hit, placed_gap, placed_hit, placed_sorted, none_some}
use Rattle.sorted_list.proofs.list.place.Goals as goal

pub insert_reserved-requires-clause-room : goal.insert_reserved-requires-clause-room
insert_reserved-requires-clause-room g c =
    let gap : Gap g.T.Ord.cmp c.args.item c.args.items.now.items c.in-Err.at = rw (← c.deref.ensures.value) c.in-Err.ensures.gap in
    let none = found_gap g.T.Ord.cmp c.args.item c.args.items.now.items c.in-Err.at gap in
    elim c.requires.room [ inl room ↦ room | inr some ↦ absurd (none_some _ none some) ]

pub returns-in-Ok-clause-items : goal.returns-in-Ok-clause-items
returns-in-Ok-clause-items g c =
    let hit : Hit g.T.Ord.cmp c.args.item c.args.items.now.items c.in-Ok.at = rw (← c.deref.ensures.value) c.in-Ok.ensures.hit in
    sym (placed_hit g.T.Ord.cmp c.args.item c.args.items.now.items c.in-Ok.at hit)

pub returns-in-Ok-clause-order : goal.returns-in-Ok-clause-order
returns-in-Ok-clause-order g c =
    subst (λ xs. IsStrictlySortedBy g.T.Ord.cmp xs) (sym (returns-in-Ok-clause-items g c))
    (placed_sorted g.T.Ord.cmp c.args.item g.met.T.Ord.total c.args.items.now.items c.requires.order)

pub returns-in-Ok-clause-length : goal.returns-in-Ok-clause-length
returns-in-Ok-clause-length g c =
    let hit : Hit g.T.Ord.cmp c.args.item c.args.items.now.items c.in-Ok.at = rw (← c.deref.ensures.value) c.in-Ok.ensures.hit in
    rw (found_hit g.T.Ord.cmp c.args.item c.args.items.now.items c.in-Ok.at c.args.item hit) (omega arith)

pub returns-in-Err-clause-items : goal.returns-in-Err-clause-items
returns-in-Err-clause-items g c =
    let gap : Gap g.T.Ord.cmp c.args.item c.args.items.now.items c.in-Err.at = rw (← c.deref.ensures.value) c.in-Err.ensures.gap in
    c.insert_reserved.ensures.items ∙ sym (placed_gap g.T.Ord.cmp c.args.item c.args.items.now.items c.in-Err.at gap)

pub returns-in-Err-clause-order : goal.returns-in-Err-clause-order
returns-in-Err-clause-order g c =
    subst (λ xs. IsStrictlySortedBy g.T.Ord.cmp xs) (sym (returns-in-Err-clause-items g c))
    (placed_sorted g.T.Ord.cmp c.args.item g.met.T.Ord.total c.args.items.now.items c.requires.order)

pub returns-in-Err-clause-length : goal.returns-in-Err-clause-length
returns-in-Err-clause-length g c =
    let gap : Gap g.T.Ord.cmp c.args.item c.args.items.now.items c.in-Err.at = rw (← c.deref.ensures.value) c.in-Err.ensures.gap in
    rw (found_gap g.T.Ord.cmp c.args.item c.args.items.now.items c.in-Err.at gap) c.insert_reserved.ensures.length
