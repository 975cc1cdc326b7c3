use Rattle.std.proofs.Common.{refl, sym, ◌∙◌}
use Rattle.pair_memory.proofs.Kept.{kept_there, kept_some, kept_out}
use Rattle.pair_memory.proofs.Tickets.{undone}
use Rattle.write_pair.proofs.Follows.{free_slot_is, refused_is}
use Rattle.write_pair.proofs.second.reserve_free_slot.Goals as goal

pub give_back-requires-clause-some : goal.give_back-requires-clause-some
give_back-requires-clause-some g c = λ _ _.
    kept_some c.side.inside.apart c.keep.new.table c.args.store.now c.keep.new.store c.args.cell (c.in_ok-keep.ensures.yes c.if-not-branch.false)

pub give_back-requires-clause-out : goal.give_back-requires-clause-out
give_back-requires-clause-out g c = λ _ _ slot is.
    kept_out c.side.inside.apart c.keep.new.table c.args.store.now c.keep.new.store c.args.cell (c.in_ok-keep.ensures.yes c.if-not-branch.false) slot is

pub returns-in-Ok : goal.returns-in-Ok
returns-in-Ok g c =
    let h = rw (← c.side.view_is) at c.requires.tickets in
    rw (← c.side.view_is, c.only.ensures)
    (free_slot_is c.args.here.now _ c.args.store.now c.args.cell c.args.op h c.promise.new.last c.keep.new.table c.keep.new.store c.in-Ok.letters _
    (rw (← c.side.view_is) at c.requires.has) (sym c.in_ok-keep.ensures.room ∙ c.if-not-branch.false) (c.in_ok-keep.ensures.yes c.if-not-branch.false)
    c.in-Ok.ensures.ok c.in-Ok.ensures.letters)

pub returns-in-Err : goal.returns-in-Err
returns-in-Err g c =
    let h = rw (← c.side.view_is) at c.requires.tickets in
    let kept = c.in_ok-keep.ensures.yes c.if-not-branch.false in
    let there = kept_there c.side.inside.apart c.keep.new.table c.args.store.now c.keep.new.store c.args.cell kept in
    let held = c.give_back.ensures.store kept.slot there ∙ undone c.args.store.now c.keep.new.store kept.slot kept.slot kept.store refl kept.other in
    rw (← c.side.view_is)
    (refused_is c.args.here.now _ c.args.store.now c.args.cell c.args.op h c.promise.new.last c.keep.new.table c.give_back.new.table
    c.give_back.new.store kept.slot _ (rw (← c.side.view_is) at c.requires.has) c.in-Err.ensures.err kept.table c.give_back.ensures.table held)
