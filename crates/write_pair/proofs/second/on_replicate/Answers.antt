use Rattle.std.proofs.Common.{rules}
use Rattle.spec_rules.specs.Writes.{on_replicate}
use Rattle.write_pair.proofs.Refused.{said_as}
use Rattle.write_pair.proofs.second.on_replicate.Goals as goal

pub returns-then-not-is_second-clause-job : goal.returns-then-not-is_second-clause-job
unfolding on_replicate
returns-then-not-is_second-clause-job g c =
    let law = g.met.D.Disk g.world.𝓛 g.world.𝓜 g.world.𝓡 ((λ s x. x), (λ x. x), (λ x. x), λ x. x) in
    said_as g.D.Disk law.stays law.only_now c.args.here.now _ _ _ _ c.silent.result _ _ c.silent.ensures (search rules)

pub returns-in-Replicated-clause-job : goal.returns-in-Replicated-clause-job
unfolding on_replicate
returns-in-Replicated-clause-job g c =
    let law = g.met.D.Disk g.world.𝓛 g.world.𝓜 g.world.𝓡 ((λ s x. x), (λ x. x), (λ x. x), λ x. x) in
    said_as g.D.Disk law.stays law.only_now c.args.here.now _ _ _ _ c.tell.result _ _ c.tell.ensures (search rules)

pub returns-in_default-clause-job : goal.returns-in_default-clause-job
unfolding on_replicate
returns-in_default-clause-job g c =
    let law = g.met.D.Disk g.world.𝓛 g.world.𝓜 g.world.𝓡 ((λ s x. x), (λ x. x), (λ x. x), λ x. x) in
    said_as g.D.Disk law.stays law.only_now c.args.here.now _ _ _ _ c.silent-in_default.result _ _ c.silent-in_default.ensures (search rules)
