use Rattle.std.proofs.Common.{arith}
use Rattle.std.proofs.lemmas.Bool.Decides.{nat_tests}
use Rattle.kept_chains.proofs.Kept.{free_is}
use Rattle.kept_chains.proofs.store.set_apart.Goals as goal

pub returns-then-free-eq0-clause-room : goal.returns-then-free-eq0-clause-room
returns-then-free-eq0-clause-room g c =
    let free = free_is c.args.store.now c.free.ensures.order in
    grind (arith, nat_tests, free, c.free.ensures.value, c.if-free-eq0.true)

pub returns-in-Ok-clause-room : goal.returns-in-Ok-clause-room
returns-in-Ok-clause-room g c =
    let free = free_is c.args.store.now c.free.ensures.order in
    grind (arith, nat_tests, free, c.free.ensures.value, c.if-free-eq0.false)
