use Rattle.kept_chains.specs.Kept.{store_of}
use Rattle.server_core.specs.ServerView.{ServerView}
use Rattle.server_core.proofs.Ticking.{tick_all}
use Rattle.server_core.proofs.ticks.tick_letters.Goals as goal

pub returns-clause-letters : goal.returns-clause-letters
returns-clause-letters g c = λ observed records.
    let it = c.parts.inside in
    let core : ServerView = record { running = it.running; log = it.log; side = it.side; queue = it.queue.items } in
    let copies = c.in_ok-copies.copies in
    rw (← c.parts.view_is)
    (tick_all core (store_of c.args.store.now) records c.in_ok-ballot.ballot c.in_ok-pending.pending copies c.in_ok-with_ask.field-0 c.in_ok-ballot.ensures
    (rw (c.new-here.ensures, c.number.ensures, c.inc.ensures, c.state.ensures) at c.in_ok-pending.ensures)
    ((rw (← c.parts.view_is) at c.in_ok-copies.ensures.letters) observed)
    (c.in_ok-with_ask.ensures records))
