use Rattle.std.proofs.Common.{rules}
use Rattle.write_pair.proofs.Refused.{said_as}
use Rattle.write_pair.proofs.lead.fill.hear_fill.Goals as goal

pub returns-then-has_entry-clause-job : goal.returns-then-has_entry-clause-job
returns-then-has_entry-clause-job g c =
    let law = g.met.D.Disk g.world.𝓛 g.world.𝓜 g.world.𝓡 ((λ s x. x), (λ x. x), (λ x. x), λ x. x) in
    said_as g.D.Disk law.stays law.only_now c.args.here.now _ _ _ _ c.say_to.result _ _ c.say_to.ensures (search rules)

pub returns-then-has_proposed-clause-job : goal.returns-then-has_proposed-clause-job
returns-then-has_proposed-clause-job g c =
    let law = g.met.D.Disk g.world.𝓛 g.world.𝓜 g.world.𝓡 ((λ s x. x), (λ x. x), (λ x. x), λ x. x) in
    said_as g.D.Disk law.stays law.only_now c.args.here.now _ _ _ _ c.silent.result _ _ c.silent.ensures (search rules)
