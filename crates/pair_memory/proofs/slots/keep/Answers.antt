use Rattle.std.proofs.Common.{◌∙◌}
use Rattle.pair_memory.proofs.Tickets.{undone}
use Rattle.pair_memory.proofs.slots.keep.Goals as goal

pub returns-in-Err-clause-err : goal.returns-in-Err-clause-err
returns-in-Err-clause-err g c = (
  c.in-Err.ensures.err,
  c.give_back.ensures ∙ undone c.args.store.now c.set_apart.new.store c.in-Some.ticket c.in-Err.ticket
      (rw c.in-Some.is at c.in_ok-set_apart.ensures.some) c.in-Err.ensures.back (rw c.in-Some.is at c.in_ok-set_apart.ensures.other),
)
