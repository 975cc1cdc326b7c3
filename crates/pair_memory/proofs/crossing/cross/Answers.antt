use Rattle.pair_memory.specs.PairMemory.{PairMemory}
use Rattle.pair_memory.proofs.Viewed.{left_of}
use Rattle.pair_memory.proofs.Crossings.{crossed_is, apart_below}
use Rattle.pair_memory.proofs.crossing.cross.Goals as goal

pub free-requires-clause-below : goal.free-requires-clause-below
free-requires-clause-below g c = λ _ _.
    let side : PairMemory = left_of c.side.view_is in
    apart_below side c.args.store.now (rw (← c.side.view_is) at c.requires.tickets)

pub returns : goal.returns
returns g c =
    rw (← c.side.view_is)
    (let side : PairMemory = left_of c.side.view_is in
    crossed_is c.args.here.now.state c.args.next.now c.args.entry.now c.requires.next side c.args.store.now c.free.new.store
    (rw (← c.side.view_is) at c.requires.tickets)
    c.drop_cells.new.table c.free.new.apart c.free.ensures.sorted c.drop_cells.ensures.sorted c.free.ensures.freed c.drop_cells.ensures.rows
    c.cross.new.self c.cross.ensures c.keep_live.new.self c.keep_live.ensures)
