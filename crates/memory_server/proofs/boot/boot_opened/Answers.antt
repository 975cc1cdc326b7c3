-- What the devices tell of a boot.
use Rattle.std.proofs.Common.{inl, inr, ℕ, List, refl, ap, ◌∙◌, arith}
use Rattle.kept_chains.proofs.Commits.{stands_left}
use Rattle.kept_chains.specs.Standing.{StandsAsEither}
use Rattle.state_store.specs.Device.{StandsForEither}
use Rattle.memory_server.proofs.Booting.{boot_done, boot_failed, boot_full, done_ended, failed_ended, full_ended, raised_in}
use Rattle.memory_server.proofs.Recovering.{stays_of}
use Rattle.memory_server.specs.Booted.{core_at}
use Rattle.memory_server.specs.Server.{Mounted}
use Rattle.memory_server.proofs.boot.boot_opened.Goals as goal

pub returns-in-Ok-clause-ended : goal.returns-in-Ok-clause-ended
returns-in-Ok-clause-ended g c =
    let old : Mounted _ = record { core = c.args.core.now; store = c.args.store.now; state = c.args.state.now } in
    let law = g.met.D.Disk g.world.𝓛 g.world.𝓜 g.world.𝓡 ((λ s x. x), (λ x. x), (λ x. x), λ x. x) in
    rw c.done.ensures
    (done_ended g.D.Disk old c.requires.stopped c.boot.new.self c.boot.new.state c.in-Ok.letters c.requires.opened c.in-Ok.ensures
    (law.stays old.store.disk))

pub returns-in-Ok-clause-booted : goal.returns-in-Ok-clause-booted
returns-in-Ok-clause-booted g c = λ observed holds kept.
    let old : Mounted _ = record { core = c.args.core.now; store = c.args.store.now; state = c.args.state.now } in
    rw c.done.ensures
    (boot_done g.D.Disk observed old c.requires.stopped holds kept c.requires.opened c.boot.new.self c.boot.new.state c.in-Ok.letters c.in-Ok.ensures)

pub returns-in-Err-NoRoom-clause-ended : goal.returns-in-Err-NoRoom-clause-ended
returns-in-Err-NoRoom-clause-ended g c =
    let old : Mounted _ = record { core = c.args.core.now; store = c.args.store.now; state = c.args.state.now } in
    let law = g.met.D.Disk g.world.𝓛 g.world.𝓜 g.world.𝓡 ((λ s x. x), (λ x. x), (λ x. x), λ x. x) in
    rw c.done-in-Err-NoRoom.ensures
    (full_ended g.D.Disk old c.requires.stopped c.boot.new.self c.boot.new.state
    (rw c.in-Err-NoRoom.field-0-is at c.in-Err-NoRoom.ensures) (law.stays old.store.disk))

pub returns-in-Err-NoRoom-clause-booted : goal.returns-in-Err-NoRoom-clause-booted
returns-in-Err-NoRoom-clause-booted g c = λ observed holds kept.
    let old : Mounted _ = record { core = c.args.core.now; store = c.args.store.now; state = c.args.state.now } in
    rw (c.done-in-Err-NoRoom.ensures, c.new.ensures)
    (boot_full g.D.Disk observed old c.requires.stopped holds kept c.requires.opened c.boot.new.self c.boot.new.state
    (rw c.in-Err-NoRoom.field-0-is at c.in-Err-NoRoom.ensures))

pub returns-in_ok-end-in-Err-Failed-clause-ended : goal.returns-in_ok-end-in-Err-Failed-clause-ended
returns-in_ok-end-in-Err-Failed-clause-ended g c =
    let store = c.args.store.now in
    let state = c.args.state.now in
    let old : Mounted _ = record { core = c.args.core.now; store = store; state = state } in
    let booted = rw c.in-Err-Failed.field-0-is at c.in-Err-Failed.ensures in
    let law = g.met.D.Disk g.world.𝓛 g.world.𝓜 g.world.𝓡 ((λ s x. x), (λ x. x), (λ x. x), λ x. x) in
    let failed = booted.cause.failed refl in
    let reopened = c.in_ok-end-in-Err-Failed.ensures in
    let later = reopened.later in
    rw c.failed.ensures
    (failed_ended g.D.Disk old c.requires.stopped c.in_ok-end-in-Err-Failed.end c.raise_at.new.core c.reopen.new.store c.reopen.new.state
    (c.raise_at.ensures ∙ ap (core_at c.in_ok-end-in-Err-Failed.end) booted.same) (omega (arith, failed, later))
    (record {
      run = reopened.run.0;
      state_run = law.goes_on state.disk c.boot.new.state.disk c.reopen.new.state.disk booted.run reopened.run.1;
    }))

pub returns-in_ok-end-in-Err-Failed-clause-booted : goal.returns-in_ok-end-in-Err-Failed-clause-booted
returns-in_ok-end-in-Err-Failed-clause-booted g c = λ observed holds kept.
    let core = c.args.core.now in
    let store = c.args.store.now in
    let state = c.args.state.now in
    let old : Mounted _ = record { core = core; store = store; state = state } in
    let will = raised_in store state in
    let booted = rw c.in-Err-Failed.field-0-is at c.in-Err-Failed.ensures in
    let law = g.met.D.Disk g.world.𝓛 g.world.𝓜 g.world.𝓡 ((λ s x. x), (λ x. x), (λ x. x), λ x. x) in
    let moments = booted.moments observed kept in
    let recorded : (x : List ℕ) → g.D.Disk.may_leave c.boot.new.state.disk x → StandsForEither state.records will.records x
    = λ x left. moments.each x (law.counts_now c.boot.new.state.disk (g.D.Disk.moment state.disk) x moments.later left) in
    let stored : (x : List ℕ) → g.D.Disk.may_leave store.disk x → StandsAsEither store will.store x
    = λ x left. inl (stands_left g.D.Disk store holds x left) in
    let reopened = c.in_ok-end-in-Err-Failed.ensures in
    rw (c.failed.ensures, c.new-in-Err-Failed.ensures)
    (boot_failed g.D.Disk observed old c.requires.stopped holds kept c.requires.opened c.in_ok-end-in-Err-Failed.end c.raise_at.new.core
    c.reopen.new.store c.reopen.new.state
    (c.raise_at.ensures ∙ ap (core_at c.in_ok-end-in-Err-Failed.end) booted.same) c.requires.known
    (reopened.ends store state.records will observed refl stored recorded (c.records-before.ensures ∙ kept.count)
    (inr (stays_of g.D.Disk store.disk store will.store refl holds refl)))
    (reopened.holds store will observed stored) (reopened.state_holds state.records will observed recorded))
