use Rattle.std.proofs.Common.{rules}
use Rattle.spec_rules.specs.Jobs.{on_letter}
use Rattle.pair_memory.specs.PairMemory.{own_of}
use Rattle.server_jobs.proofs.Ends.{said_as}
use Rattle.server_jobs.proofs.jobs.on_letter.Goals as goal

pub returns-then-not-is_here_in : goal.returns-then-not-is_here_in
returns-then-not-is_here_in g c =
    let law = g.met.D.Disk g.world.𝓛 g.world.𝓜 g.world.𝓡 ((λ s x. x), (λ x. x), (λ x. x), λ x. x) in
    said_as g.D.Disk law.stays law.only_now c.args.here.now _ _ _ _ c.silent.result _
    (on_letter c.args.here.now (own_of c.args.side.now c.args.store.now) c.args.letter.now) c.silent.ensures (search rules)

pub returns-then-letter-rev : goal.returns-then-letter-rev
returns-then-letter-rev g c =
    let law = g.met.D.Disk g.world.𝓛 g.world.𝓜 g.world.𝓡 ((λ s x. x), (λ x. x), (λ x. x), λ x. x) in
    said_as g.D.Disk law.stays law.only_now c.args.here.now _ _ _ _ c.at_other_rev.result _
    (on_letter c.args.here.now (own_of c.args.side.now c.args.store.now) c.args.letter.now) c.at_other_rev.ensures (search rules)

pub returns-then-not-is_from_in : goal.returns-then-not-is_from_in
returns-then-not-is_from_in g c =
    let law = g.met.D.Disk g.world.𝓛 g.world.𝓜 g.world.𝓡 ((λ s x. x), (λ x. x), (λ x. x), λ x. x) in
    said_as g.D.Disk law.stays law.only_now c.args.here.now _ _ _ _ c.silent-then-not-is_from_in.result _
    (on_letter c.args.here.now (own_of c.args.side.now c.args.store.now) c.args.letter.now) c.silent-then-not-is_from_in.ensures (search rules)
