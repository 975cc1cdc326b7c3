use Rattle.std.proofs.Common.{rules}
use Rattle.write_pair.proofs.Refused.{said_as}
use Rattle.write_pair.proofs.lead.write.take.Goals as goal

pub returns-in-Some-clause-job : goal.returns-in-Some-clause-job
returns-in-Some-clause-job g c =
    let law = g.met.D.Disk g.world.𝓛 g.world.𝓜 g.world.𝓡 ((λ s x. x), (λ x. x), (λ x. x), λ x. x) in
    said_as g.D.Disk law.stays law.only_now c.args.here.now _ _ _ _ c.silent.result _ _ c.silent.ensures (search rules)

pub returns-in-Some-2-clause-job : goal.returns-in-Some-2-clause-job
returns-in-Some-2-clause-job g c =
    let law = g.met.D.Disk g.world.𝓛 g.world.𝓜 g.world.𝓡 ((λ s x. x), (λ x. x), (λ x. x), λ x. x) in
    said_as g.D.Disk law.stays law.only_now c.args.here.now _ _ _ _ c.say.result _ _ c.say.ensures (search rules)
