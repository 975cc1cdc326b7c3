use Rattle.std.proofs.Common.{rules, sym, ◌∙◌}
use Rattle.spec_rules.specs.Writes.{on_reserved}
use Rattle.pair_memory.specs.PairMemory.{own_of}
use Rattle.write_pair.proofs.Leads.{reserving, reserved_is}
use Rattle.write_pair.proofs.Refused.{refused, said_as}
use Rattle.write_pair.proofs.lead.replies.on_reserved.Goals as goal

pub returns-in-Some-clause-job : goal.returns-in-Some-clause-job
returns-in-Some-clause-job g c =
    let is = sym c.in_ok-pending.ensures.value ∙ c.in-Some.is in
    let waits = reserving c.in-Some.pending c.args.op c.if-branch-op.true c.if-not-branch.true in
    rw (← (reserved_is c.args.here.now (own_of c.args.side.now c.args.store.now) c.args.op c.args.cell c.in-Some.pending is waits))
    (rw c.with_reserved.ensures at c.act.ensures.job)

pub returns-in_err-pending-clause-job : goal.returns-in_err-pending-clause-job
returns-in_err-pending-clause-job g c =
    let law = g.met.D.Disk g.world.𝓛 g.world.𝓜 g.world.𝓡 ((λ s x. x), (λ x. x), (λ x. x), λ x. x) in
    refused g.D.Disk law.stays law.only_now c.args.here.now c.args.side.now c.args.store.now c.from_residual.result _ c.from_residual.ensures.1

pub returns-in_default-clause-job : goal.returns-in_default-clause-job
unfolding on_reserved
returns-in_default-clause-job g c =
    let law = g.met.D.Disk g.world.𝓛 g.world.𝓜 g.world.𝓡 ((λ s x. x), (λ x. x), (λ x. x), λ x. x) in
    said_as g.D.Disk law.stays law.only_now c.args.here.now _ _ _ _ c.silent.result _ _ c.silent.ensures (search rules)
