use Rattle.std.proofs.Common.{rules}
use Rattle.spec_rules.specs.Fills.{on_fill}
use Rattle.write_pair.proofs.Refused.{said_as}
use Rattle.write_pair.proofs.lead.fill.on_fill.Goals as goal

pub returns-then-not-is_lead-clause-job : goal.returns-then-not-is_lead-clause-job
unfolding on_fill
returns-then-not-is_lead-clause-job g c =
    let law = g.met.D.Disk g.world.𝓛 g.world.𝓜 g.world.𝓡 ((λ s x. x), (λ x. x), (λ x. x), λ x. x) in
    said_as g.D.Disk law.stays law.only_now c.args.here.now _ _ _ _ c.silent.result _ _ c.silent.ensures (search rules)

pub returns-then-is_under_way-clause-job : goal.returns-then-is_under_way-clause-job
unfolding on_fill
returns-then-is_under_way-clause-job g c =
    let law = g.met.D.Disk g.world.𝓛 g.world.𝓜 g.world.𝓡 ((λ s x. x), (λ x. x), (λ x. x), λ x. x) in
    said_as g.D.Disk law.stays law.only_now c.args.here.now _ _ _ _ c.silent-then-is_under_way.result _ _ c.silent-then-is_under_way.ensures (search rules)
