use Rattle.std.proofs.Common.{sym, ◌∙◌}
use Rattle.pair_memory.specs.PairMemory.{own_of}
use Rattle.pair_memory.proofs.Said.{said_done}
use Rattle.write_pair.proofs.Moves.{not_moved, own_is, goes_some, goes_none}
use Rattle.write_pair.proofs.Refused.{refused}
use Rattle.write_pair.proofs.lead.actions.go_on.Goals as goal

pub act-requires-clause-moved : goal.act-requires-clause-moved
act-requires-clause-moved g c = λ _ _.
    let is = sym c.in_ok-op.ensures.value ∙ c.in-Some.is in
    not_moved c.args.side.now.pending c.args.cell c.in-Some.op is (own_is _ c.args.cell c.in-Some.op is c.in_ok-op.ensures.own)

pub returns-in-Some-clause-job : goal.returns-in-Some-clause-job
returns-in-Some-clause-job g c =
    let is = sym c.in_ok-op.ensures.value ∙ c.in-Some.is in
    let at_cell = own_is _ c.args.cell c.in-Some.op is c.in_ok-op.ensures.own in
    rw (← (goes_some c.args.here.now (own_of c.args.side.now c.args.store.now) c.args.cell c.in-Some.op c.in_ok-op.ensures.sorted is at_cell))
    c.act.ensures.job

pub returns-in-None-clause-job : goal.returns-in-None-clause-job
returns-in-None-clause-job g c =
    let is = sym c.in_ok-op.ensures.value ∙ c.in-None.is in
    let law = g.met.D.Disk g.world.𝓛 g.world.𝓜 g.world.𝓡 ((λ s x. x), (λ x. x), (λ x. x), λ x. x) in
    rw (← (goes_none c.args.here.now (own_of c.args.side.now c.args.store.now) c.args.cell is))
    (said_done g.D.Disk law.stays law.only_now c.args.here.now _ _ _ _ c.silent.result _ c.silent.ensures)

pub returns-in_err-op-clause-job : goal.returns-in_err-op-clause-job
returns-in_err-op-clause-job g c =
    let law = g.met.D.Disk g.world.𝓛 g.world.𝓜 g.world.𝓡 ((λ s x. x), (λ x. x), (λ x. x), λ x. x) in
    refused g.D.Disk law.stays law.only_now c.args.here.now c.args.side.now c.args.store.now c.from_residual.result _ c.from_residual.ensures.1
