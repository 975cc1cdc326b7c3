use Rattle.std.proofs.Common.{rules}
use Rattle.spec_rules.specs.Jobs.{does}
use Rattle.pair_memory.specs.PairMemory.{own_of}
use Rattle.server_jobs.proofs.Ends.{said_as}
use Rattle.server_jobs.proofs.jobs.does.Goals as goal

pub returns-else-is_here_in : goal.returns-else-is_here_in
unfolding does
returns-else-is_here_in g c =
    let law = g.met.D.Disk g.world.𝓛 g.world.𝓜 g.world.𝓡 ((λ s x. x), (λ x. x), (λ x. x), λ x. x) in
    said_as g.D.Disk law.stays law.only_now c.args.here.now _ _ _ _ c.silent.result _
    (does c.args.here.now (own_of c.args.side.now c.args.store.now) c.args.job.now) c.silent.ensures (search rules)

pub returns-else-is_here_in-2 : goal.returns-else-is_here_in-2
unfolding does
returns-else-is_here_in-2 g c =
    let law = g.met.D.Disk g.world.𝓛 g.world.𝓜 g.world.𝓡 ((λ s x. x), (λ x. x), (λ x. x), λ x. x) in
    said_as g.D.Disk law.stays law.only_now c.args.here.now _ _ _ _ c.silent-else-is_here_in-2.result _
    (does c.args.here.now (own_of c.args.side.now c.args.store.now) c.args.job.now) c.silent-else-is_here_in-2.ensures (search rules)

pub returns-else-is_here_in-3 : goal.returns-else-is_here_in-3
unfolding does
returns-else-is_here_in-3 g c =
    let law = g.met.D.Disk g.world.𝓛 g.world.𝓜 g.world.𝓡 ((λ s x. x), (λ x. x), (λ x. x), λ x. x) in
    said_as g.D.Disk law.stays law.only_now c.args.here.now _ _ _ _ c.silent-else-is_here_in-3.result _
    (does c.args.here.now (own_of c.args.side.now c.args.store.now) c.args.job.now) c.silent-else-is_here_in-3.ensures (search rules)

pub returns-in-Apply : goal.returns-in-Apply
unfolding does
returns-in-Apply g c =
    let law = g.met.D.Disk g.world.𝓛 g.world.𝓜 g.world.𝓡 ((λ s x. x), (λ x. x), (λ x. x), λ x. x) in
    said_as g.D.Disk law.stays law.only_now c.args.here.now _ _ _ _ c.silent-in-Apply.result _
    (does c.args.here.now (own_of c.args.side.now c.args.store.now) c.args.job.now) c.silent-in-Apply.ensures (search rules)
