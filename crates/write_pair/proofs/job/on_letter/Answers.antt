use Rattle.std.proofs.Common.{rules}
use Rattle.spec_rules.specs.Jobs.{handles}
use Rattle.write_pair.proofs.Refused.{said_as}
use Rattle.write_pair.proofs.job.on_letter.Goals as goal

pub returns-in-Reserve-clause-job : goal.returns-in-Reserve-clause-job
unfolding handles
returns-in-Reserve-clause-job g c =
    let law = g.met.D.Disk g.world.𝓛 g.world.𝓜 g.world.𝓡 ((λ s x. x), (λ x. x), (λ x. x), λ x. x) in
    said_as g.D.Disk law.stays law.only_now c.args.here.now _ _ _ _ c.on_reserve.result _ _ c.on_reserve.ensures (search rules)

pub returns-in-PairFull-clause-job : goal.returns-in-PairFull-clause-job
unfolding handles
returns-in-PairFull-clause-job g c =
    let law = g.met.D.Disk g.world.𝓛 g.world.𝓜 g.world.𝓡 ((λ s x. x), (λ x. x), (λ x. x), λ x. x) in
    said_as g.D.Disk law.stays law.only_now c.args.here.now _ _ _ _ c.on_pair_full.result _ _ c.on_pair_full.ensures (search rules)
