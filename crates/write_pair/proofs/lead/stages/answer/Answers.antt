use Rattle.write_pair.proofs.Moves.{answers_is}
use Rattle.write_pair.proofs.lead.stages.answer.Goals as goal

pub returns : goal.returns
returns g c =
    let said = rw (← c.side.view_is) at c.in_ok-done.ensures in
    answers_is c.args.here.now c.args.side.now c.args.store.now c.args.op.now c.requires.tickets c.requires.moved _ c.close.new.self c.in_ok-done.done
    c.requires.put c.close.ensures.table said
