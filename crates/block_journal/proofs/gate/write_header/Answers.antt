use Rattle.std.proofs.Common.{arith}
use Rattle.block_journal.proofs.Gates.{all_following, torn_shut, heading}
use Rattle.block_journal.proofs.gate.write_header.Goals as goal

pub returns-clause-any_moment : goal.returns-clause-any_moment
returns-clause-any_moment g c observed only shut =
    let fits = (g.met.D.Disk g.world.𝓛 g.world.𝓜 g.world.𝓡 ((λ s x. x), (λ x. x), (λ x. x), λ x. x)).whole c.args.disk.now observed in
    let room = c.requires.room in
    let mid = (rw (all_following c.args.header.now) at c.in_ok-write_kept.ensures.written) observed in
    heading g.D.Disk.moment g.D.Disk.left_since c.args.disk.now c.write_kept.new.disk c.write_kept-2.new.disk _ _ _ _ _ c.args.header.now only shut
    (c.in_ok-write_kept.ensures.durable observed) c.requires.open (omega arith) mid
    c.write_kept.ensures.any_moment (rw c.requires.open at c.write_kept-2.ensures.any_moment)

pub returns-clause-either : goal.returns-clause-either
returns-clause-either g c observed shut =
    let fits = (g.met.D.Disk g.world.𝓛 g.world.𝓜 g.world.𝓡 ((λ s x. x), (λ x. x), (λ x. x), λ x. x)).whole c.args.disk.now observed in
    let room = c.requires.room in
    torn_shut _ c.args.header.now _ _ c.requires.open (omega arith) ((rw (all_following c.args.header.now) at c.in_ok-write_kept.ensures.written) observed)
    ((rw c.requires.open at c.write_kept-2.ensures.torn) observed)
