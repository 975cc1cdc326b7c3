use Rattle.std.proofs.Common.{rules}
use Rattle.spec_rules.specs.Writes.{on_write}
use Rattle.write_pair.proofs.Refused.{said_as}
use Rattle.write_pair.proofs.lead.write.on_write.Goals as goal

pub returns-else-is_lead-clause-job : goal.returns-else-is_lead-clause-job
unfolding on_write
returns-else-is_lead-clause-job g c =
    let law = g.met.D.Disk g.world.𝓛 g.world.𝓜 g.world.𝓡 ((λ s x. x), (λ x. x), (λ x. x), λ x. x) in
    said_as g.D.Disk law.stays law.only_now c.args.here.now _ _ _ _ c.silent.result _ _ c.silent.ensures (search rules)
