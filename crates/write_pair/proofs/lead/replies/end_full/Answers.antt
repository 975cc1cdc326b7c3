use Rattle.std.proofs.Common.{sym, ap, ◌∙◌}
use Rattle.petal_base.specs.declared.cell.Cell.{Cell}
use Rattle.petal_msg.specs.declared.operation.Pending.{Pending}
use Rattle.petal_table.specs.Table.{Table, at}
use Rattle.spec_rules.specs.Store.{cell_cmp}
use Rattle.pair_memory.specs.PairMemory.{PairMemory}
use Rattle.pair_memory.proofs.Viewed.{left_of}
use Rattle.pair_memory.proofs.Tickets.{own_out}
use Rattle.write_pair.proofs.Leads.{finished_pending, full_slot, full_is}
use Rattle.write_pair.proofs.lead.replies.end_full.Goals as goal

pub give_back-requires-clause-out : goal.give_back-requires-clause-out
give_back-requires-clause-out g c = λ _ _ slot is.
    let after = c.end.new.side in
    own_out after.pending after.last after.own after.apart c.args.store.now.tickets c.in_ok-done.ensures.keeps c.args.op.now.cell slot
    (ap (λ (s : PairMemory). at cell_cmp s.own c.args.op.now.cell) (sym c.side.view_is) ∙ is)

pub returns : goal.returns
returns g c =
    let op = c.args.op.now in
    let after : PairMemory = left_of c.side.view_is in
    let said = rw (← c.side.view_is) at c.in_ok-done.ensures in
    let same = finished_pending c.args.here.now c.args.side.now after c.args.store.now op c.in_ok-done.done said in
    let there = ap (λ (t : Table Cell Pending). at cell_cmp t op.cell) same ∙ c.requires.there in
    let slot = full_slot after c.args.store.now op said.keeps there c.requires.unused in
    full_is c.args.here.now c.args.side.now after c.args.store.now op c.in_ok-done.done c.close.new.self c.give_back.new.table c.give_back.new.store slot.0
    c.close.ensures.table c.give_back.ensures.sorted slot.1 c.give_back.ensures.table (c.give_back.ensures.store slot.0 slot.1) said
