use Rattle.std.proofs.Common.{refl, sym, ◌∙◌}
use Rattle.pair_memory.specs.PairMemory.{PairMemory}
use Rattle.pair_memory.proofs.Viewed.{left_of}
use Rattle.pair_memory.proofs.Kept.{kept_there, kept_some, kept_out}
use Rattle.pair_memory.proofs.Tickets.{undone}
use Rattle.write_pair.proofs.Opens.{own_back}
use Rattle.write_pair.proofs.lead.open.begin.Goals as goal

pub give_back-requires-clause-some : goal.give_back-requires-clause-some
give_back-requires-clause-some g c = λ _ _.
    kept_some c.side.inside.own c.keep.new.table c.args.store.now c.keep.new.store c.args.op.now.cell (c.in_ok-keep.ensures.yes c.if-not-branch.false)

pub give_back-requires-clause-out : goal.give_back-requires-clause-out
give_back-requires-clause-out g c = λ _ _ slot is.
    kept_out c.side.inside.own c.keep.new.table c.args.store.now c.keep.new.store c.args.op.now.cell (c.in_ok-keep.ensures.yes c.if-not-branch.false) slot is

pub returns-in-Err-clause-err : goal.returns-in-Err-clause-err
returns-in-Err-clause-err g c =
    let h = rw (← c.side.view_is) at c.requires.tickets in
    let none = rw (← c.side.view_is) at c.requires.none in
    let side : PairMemory = left_of c.side.view_is in
    let kept = c.in_ok-keep.ensures.yes c.if-not-branch.false in
    let there = kept_there side.own c.keep.new.table c.args.store.now c.keep.new.store c.args.op.now.cell kept in
    let back = own_back c.args.op.now side c.args.store.now h none c.keep.new.table c.give_back.new.table kept.slot kept.table c.give_back.ensures.table in
    let held = c.give_back.ensures.store kept.slot there ∙ undone c.args.store.now c.keep.new.store kept.slot kept.slot kept.store refl kept.other in
    rw (← c.side.view_is) ((λ i. record side { next = c.in-Err.ensures.err.1 i; pending = c.in-Err.ensures.err.0 i; own = back i }), held)

pub returns-in-Err-clause-why : goal.returns-in-Err-clause-why
returns-in-Err-clause-why g c = rw (sym c.in_ok-keep.ensures.room ∙ c.if-not-branch.false) (rw (← c.side.view_is) c.in-Err.ensures.why)
