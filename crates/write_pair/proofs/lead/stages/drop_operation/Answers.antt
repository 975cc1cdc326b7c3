use Rattle.std.proofs.Common.{ap, sym, ◌∙◌}
use Rattle.petal_table.specs.Table.{at}
use Rattle.spec_rules.specs.Store.{cell_cmp}
use Rattle.pair_memory.specs.PairMemory.{PairMemory}
use Rattle.pair_memory.proofs.Viewed.{left_of}
use Rattle.pair_memory.specs.JobResult.{only}
use Rattle.pair_memory.proofs.Tickets.{own_out}
use Rattle.write_pair.proofs.Moves.{own_slot, ends_used, ends_unused}
use Rattle.write_pair.proofs.lead.stages.drop_operation.Goals as goal

pub give_back-requires-clause-out : goal.give_back-requires-clause-out
give_back-requires-clause-out g c = λ _ _ slot is.
    let side = c.args.side.now in
    own_out side.pending side.last side.own side.apart c.args.store.now.tickets c.requires.tickets c.args.op.now.cell slot
    (ap (λ (s : PairMemory). at cell_cmp s.own c.args.op.now.cell) (sym c.side.view_is) ∙ is)

pub returns-then-op : goal.returns-then-op
returns-then-op g c =
    rw (← c.side.view_is)
    (ends_used c.args.here.now _ c.args.store.now c.args.op.now (rw (← c.side.view_is) at c.requires.tickets) (rw (← c.side.view_is) at c.requires.moved)
    c.close.new.self c.only.result c.if-op.true c.close.ensures.table (c.only.ensures ∙ ap only c.new.ensures))

pub returns : goal.returns
returns g c =
    rw (← c.side.view_is)
    (let before : PairMemory = left_of c.side.view_is in
    let h = rw (← c.side.view_is) at c.requires.tickets in
    let m = rw (← c.side.view_is) at c.requires.moved in
    let slot = own_slot c.args.here.now before c.args.store.now c.args.op.now h m c.if-op.false in
    ends_unused c.args.here.now before c.args.store.now c.args.op.now h m c.close.new.self c.give_back.new.table slot.0 c.give_back.new.store c.only-2.result
    c.if-op.false c.close.ensures.table c.give_back.ensures.sorted slot.1 c.give_back.ensures.table (c.give_back.ensures.store slot.0 slot.1)
    (c.only-2.ensures ∙ ap only c.new-2.ensures))
