use Rattle.std.proofs.Common.{ap, ◌∙◌}
use Rattle.spec_rules.specs.Fills.{fill_operation}
use Rattle.pair_memory.specs.PairMemory.{PairMemory, own_of}
use Rattle.write_pair.specs.Wanted.{moving}
use Rattle.write_pair.proofs.Begun.{fill_is}
use Rattle.write_pair.proofs.Refused.{refused}
use Rattle.write_pair.proofs.lead.fill.open_fill.Goals as goal

pub returns-clause-job : goal.returns-clause-job
returns-clause-job g c =
    let here = c.args.here.now in
    rw (← (fill_is here (own_of c.args.side.now c.args.store.now) c.in_ok-op.op (moving c.args.entry.now)
    (c.in_ok-op.ensures ∙ ap (λ (s : PairMemory). fill_operation here s.next (moving c.args.entry.now)) c.side.view_is)))
    c.open.ensures.job

pub returns-in_err-op-clause-job : goal.returns-in_err-op-clause-job
returns-in_err-op-clause-job g c =
    let law = g.met.D.Disk g.world.𝓛 g.world.𝓜 g.world.𝓡 ((λ s x. x), (λ x. x), (λ x. x), λ x. x) in
    refused g.D.Disk law.stays law.only_now c.args.here.now c.args.side.now c.args.store.now c.from_residual.result _ c.from_residual.ensures.1
