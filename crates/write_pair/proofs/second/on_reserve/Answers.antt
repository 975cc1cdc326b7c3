use Rattle.std.proofs.Common.{sym, ◌∙◌}
use Rattle.pair_memory.specs.PairMemory.{own_of}
use Rattle.write_pair.proofs.Follows.{reserve_is}
use Rattle.write_pair.proofs.second.on_reserve.Goals as goal

pub returns-in-Some : goal.returns-in-Some
returns-in-Some g c =
    let is = sym c.last_on.ensures ∙ c.in-Some.is in
    rw (← (reserve_is c.args.here.now (own_of c.args.side.now c.args.store.now) c.args.op c.args.cell c.in-Some.last (sym c.if-not-is_second.ensures) is))
    c.reserve_after.ensures
