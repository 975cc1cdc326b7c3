-- The first job that applies an entry, done or refused.
use Rattle.std.proofs.Common.{◌++◌, Option, refl, ap, ◌∙◌}
use Rattle.server_log.specs.Part.{state_of}
use Rattle.kept_chains.specs.Kept.{store_of}
use Rattle.petal_command.specs.declared.command.Command.{Command}
use Rattle.spec_rules.specs.Crossing.{jobs_by}
use Rattle.server_core.specs.ServerView.{core_of}
use Rattle.server_jobs.specs.Wants.{own_in}
use Rattle.server_core.proofs.Entering.{applied_not, applied_nothing, applied_work}
use Rattle.server_core.specs.Work.{IsStoreWork}
use Rattle.pair_memory.specs.declared.error.WorkError.TheVariants.{NoMemory}
use Rattle.server_core.proofs.Steps.{of_error}
use Rattle.server_core.proofs.Works.{apply_first}
use Rattle.server_core.proofs.entry.apply_next.Goals as goal

pub returns-in_err-next : goal.returns-in_err-next
returns-in_err-next g c = λ running.
    let old = core_of running c.args.log.now c.args.side.now c.args.queue.now.items in
    let new = core_of running c.args.log.now c.args.side.now c.next_with_jobs.new.queue.items in
    let there = apply_first c.args.queue.now.items c.requires.first in
    let law = g.met.D.Disk g.world.𝓛 g.world.𝓜 g.world.𝓡 ((λ s x. x), (λ x. x), (λ x. x), λ x. x) in
    let found = c.in_err-next.ensures in
    of_error (λ result. IsStoreWork g.D.Disk c.args.state.now.records old new c.args.store.now c.args.store.now result) NoMemory
    c.from_residual.result c.from_residual.ensures
    (applied_nothing g.D.Disk c.args.state.now.records old c.args.store.now there law.stays law.only_now
    new (ap (core_of running old.log old.side) found.same))

pub returns-in-Err : goal.returns-in-Err
returns-in-Err g c = λ running.
    let old = core_of running c.args.log.now c.args.side.now c.args.queue.now.items in
    let new = core_of running c.enter_next.new.log c.enter_next.new.side c.next_with_jobs.new.queue.items in
    let there = apply_first c.args.queue.now.items c.requires.first in
    let law = g.met.D.Disk g.world.𝓛 g.world.𝓜 g.world.𝓡 ((λ s x. x), (λ x. x), (λ x. x), λ x. x) in
    let done = c.in-Err.ensures in
    applied_not g.D.Disk c.args.state.now.records old c.args.store.now there law.stays law.only_now new c.enter_next.new.store c.in-Err.error
    done.entered done.same refl done.voter c.next_with_jobs.ensures.same

pub returns-in-Ok : goal.returns-in-Ok
returns-in-Ok g c = λ running.
    let old = core_of running c.args.log.now c.args.side.now c.args.queue.now.items in
    let new = core_of running c.enter_next.new.log c.enter_next.new.side c.add_all.new.jobs.items in
    let there = apply_first c.args.queue.now.items c.requires.first in
    let done = c.in-Ok.ensures in
    let before = store_of c.args.store.now in
    let jobs = rw c.next_with_jobs.ensures.same at c.enter.ensures.jobs in
    let stages = c.in_ok-next.ensures.jobs before
    ∙ ap (λ (entry : Option Command). jobs_by (state_of old.log) old.log.voter.me entry (own_in old.side before)) c.in_ok-next.ensures.next.0 in
    applied_work g.D.Disk c.args.state.now.records old c.args.store.now there new c.enter_next.new.store c.in-Ok.done c.in-Ok.done
    (done.entered (λ no. absurd (cc))) done.done refl done.voter (c.add_all.ensures ∙ (λ i. jobs i ++ stages i))
