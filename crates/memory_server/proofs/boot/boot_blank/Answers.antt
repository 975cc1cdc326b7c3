-- A store is made on a blank device, or the device fails.
use Rattle.std.proofs.Common.{◌≤◌, sym, ap, subst, ◌∙◌}
use Rattle.kept_chains.specs.Kept.{store_of}
use Rattle.spec_rules.specs.Store.{blank_store}
use Rattle.server_store.specs.Slots.{slot_start}
use Rattle.memory_server.proofs.Booting.{booted_on, ended_failed, ended_on, failed_on}
use Rattle.memory_server.proofs.boot.boot_blank.Goals as goal

pub returns-in_ok-attempt-in-Ok-clause-ended : goal.returns-in_ok-attempt-in-Ok-clause-ended
returns-in_ok-attempt-in-Ok-clause-ended g c =
    let made = c.in-Ok.made in
    let law = g.met.D.Disk g.world.𝓛 g.world.𝓜 g.world.𝓡 ((λ s x. x), (λ x. x), (λ x. x), λ x. x) in
    let ended = c.in_ok-attempt-in-Ok.ensures.ended in
    ended_on g.D.Disk c.args.core.now c.args.store.now c.args.state.now c.args.disk made
    _ _ c.in-Ok.ensures.later
    (record { run = law.goes_on c.args.disk made.disk _ c.in-Ok.ensures.run ended.run.run; state_run = ended.run.state_run })
    ended

pub returns-in_ok-attempt-in-Ok-clause-booted : goal.returns-in_ok-attempt-in-Ok-clause-booted
returns-in_ok-attempt-in-Ok-clause-booted g c = λ observed kept.
    booted_on g.D.Disk c.args.core.now c.args.store.now c.args.state.now c.args.disk c.in-Ok.made
    _ _ _ (ap store_of c.in-Ok.ensures.ok ∙ ap blank_store c.slots.ensures.value)
    (c.in_ok-attempt-in-Ok.ensures.booted observed (c.in-Ok.ensures.holds observed) kept)

pub returns-in-Err-default-Failed-clause-ended : goal.returns-in-Err-default-Failed-clause-ended
returns-in-Err-default-Failed-clause-ended g c =
    let failed = c.in-Err-default-Failed in
    let law = g.met.D.Disk g.world.𝓛 g.world.𝓜 g.world.𝓡 ((λ s x. x), (λ x. x), (λ x. x), λ x. x) in
    let room = subst (λ size. slot_start c.args.store.now.slots ≤ size) (sym failed.ensures.err_size) c.requires.room in
    rw c.failed-attempt.ensures
    (ended_failed g.D.Disk c.args.core.now c.args.store.now c.args.state.now c.args.disk failed.disk c.requires.stopped room
    (failed.ensures.failed failed.field-0-1-is) failed.ensures.err_run (law.stays c.args.state.now.disk))

pub returns-in-Err-default-Failed-clause-booted : goal.returns-in-Err-default-Failed-clause-booted
returns-in-Err-default-Failed-clause-booted g c = λ observed kept.
    rw (c.failed-attempt.ensures, c.new.ensures)
    (failed_on g.D.Disk c.args.core.now c.args.store.now c.args.state.now c.args.disk c.in-Err-default-Failed.disk kept)
