use Rattle.write_pair.proofs.Follows.{again_is}
use Rattle.write_pair.proofs.second.reserve_again.Goals as goal

pub returns : goal.returns
returns g c =
    let h = rw (← c.side.view_is) at c.requires.tickets in
    let said = rw (← c.side.view_is) at c.in_ok-done.ensures in
    rw (← c.side.view_is)
    (again_is c.args.here.now _ c.args.store.now c.args.cell c.args.op h c.replace.new.self c.in_ok-done.done
    (rw (← c.side.view_is) at c.requires.has) c.replace.ensures said)
