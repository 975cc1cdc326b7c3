use Rattle.std.proofs.Common.{sym, ◌∙◌}
use Rattle.spec_rules.specs.Writes.{with_pending}
use Rattle.pair_memory.specs.PairMemory.{own_of}
use Rattle.write_pair.proofs.Moves.{said_acts}
use Rattle.write_pair.proofs.lead.actions.act.Goals as goal

pub returns-in-Reserve-clause-job : goal.returns-in-Reserve-clause-job
returns-in-Reserve-clause-job g c =
    let law = g.met.D.Disk g.world.𝓛 g.world.𝓜 g.world.𝓡 ((λ s x. x), (λ x. x), (λ x. x), λ x. x) in
    said_acts g.D.Disk law.stays law.only_now c.args.here.now (with_pending (own_of c.args.side.now c.args.store.now) c.args.op.now) c.args.op.now
    _ _ _ _ c.reserve.result _ _ (sym c.next_stage.ensures ∙ c.in-Reserve.is) c.reserve.ensures

pub returns-in-Replicate-clause-job : goal.returns-in-Replicate-clause-job
returns-in-Replicate-clause-job g c =
    let law = g.met.D.Disk g.world.𝓛 g.world.𝓜 g.world.𝓡 ((λ s x. x), (λ x. x), (λ x. x), λ x. x) in
    said_acts g.D.Disk law.stays law.only_now c.args.here.now (with_pending (own_of c.args.side.now c.args.store.now) c.args.op.now) c.args.op.now
    _ _ _ _ c.replicate.result _ _ (sym c.next_stage.ensures ∙ c.in-Replicate.is) c.replicate.ensures

pub returns-in-Answer-clause-job : goal.returns-in-Answer-clause-job
returns-in-Answer-clause-job g c =
    let law = g.met.D.Disk g.world.𝓛 g.world.𝓜 g.world.𝓡 ((λ s x. x), (λ x. x), (λ x. x), λ x. x) in
    said_acts g.D.Disk law.stays law.only_now c.args.here.now (with_pending (own_of c.args.side.now c.args.store.now) c.args.op.now) c.args.op.now
    _ _ _ _ c.answer.result _ _ (sym c.next_stage.ensures ∙ c.in-Answer.is) c.answer.ensures

pub returns-in-Drop-clause-job : goal.returns-in-Drop-clause-job
returns-in-Drop-clause-job g c =
    let law = g.met.D.Disk g.world.𝓛 g.world.𝓜 g.world.𝓡 ((λ s x. x), (λ x. x), (λ x. x), λ x. x) in
    said_acts g.D.Disk law.stays law.only_now c.args.here.now (with_pending (own_of c.args.side.now c.args.store.now) c.args.op.now) c.args.op.now
    _ _ _ _ _ _ _ (sym c.next_stage.ensures ∙ c.in-Drop.is) c.drop_operation.ensures
