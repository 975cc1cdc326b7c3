-- What comes of the first job.
use Rattle.std.proofs.Common.{ℕ, List, [], refl, sym, ap, ◌∙◌}
use Rattle.kept_chains.specs.Kept.{store_of}
use Rattle.kept_chains.specs.Standing.{StandsAsEither}
use Rattle.spec_rules.proofs.Tests.{true_false}
use Rattle.spec_rules.specs.Jobs.{Acted}
use Rattle.server_core.specs.ServerView.{ServerView, left_by_first}
use Rattle.state_store.specs.Device.{StandsForEither}
use Rattle.memory_server.proofs.Faults.{few_after, fault_commits, fault_letters, fault_site, has_failed, shown_of, stops_letters}
use Rattle.memory_server.proofs.Working.{full_done, none_done, work_done}
use Rattle.memory_server.specs.Server.{Mounted}
use Rattle.memory_server.proofs.work.work_first.Goals as goal

pub returns-in-Ok-Some-clause-ended : goal.returns-in-Ok-Some-clause-ended
returns-in-Ok-Some-clause-ended g c =
    let worked = c.in-Ok-Some.ensures in
    rw c.done.ensures
    (record { tickets = λ _. worked.keeps; cause = λ no. absurd no; run = record { run = worked.run; state_run = worked.state_run } })

pub returns-in-Ok-Some-clause-worked : goal.returns-in-Ok-Some-clause-worked
returns-in-Ok-Some-clause-worked g c = λ observed stands.
    let old : Mounted _ = record { core = c.args.core.now; store = c.args.store.now; state = c.args.state.now } in
    let new : Mounted _ = record { core = c.work.new.self; store = c.work.new.store; state = c.work.new.state } in
    let worked = c.in-Ok-Some.ensures in
    rw (c.done.ensures, c.in-Ok-Some.letters-is)
    (work_done g.D.Disk observed old stands new c.in-Ok-Some.letters ((rw c.in-Ok-Some.field-0-is at worked.work) observed observed stands.store stands.state)
    worked.life.1 (worked.holds observed stands.store) (worked.state_holds observed stands.state))

pub returns-in-Ok-None-clause-ended : goal.returns-in-Ok-None-clause-ended
returns-in-Ok-None-clause-ended g c =
    let worked = c.in-Ok-None.ensures in
    rw c.done-in-Ok-None.ensures
    (record { tickets = λ _. worked.keeps; cause = λ no. absurd no; run = record { run = worked.run; state_run = worked.state_run } })

pub returns-in-Ok-None-clause-worked : goal.returns-in-Ok-None-clause-worked
returns-in-Ok-None-clause-worked g c = λ observed stands.
    let old : Mounted _ = record { core = c.args.core.now; store = c.args.store.now; state = c.args.state.now } in
    let new : Mounted _ = record { core = c.work.new.self; store = c.work.new.store; state = c.work.new.state } in
    let worked = c.in-Ok-None.ensures in
    rw (c.done-in-Ok-None.ensures, c.new.ensures)
    (work_done g.D.Disk observed old stands new []
    (none_done g.D.Disk observed old stands new ((rw c.in-Ok-None.field-0-is at worked.work) observed observed stands.store stands.state))
    worked.life.1 (worked.holds observed stands.store) (worked.state_holds observed stands.state))

pub returns-in-Err-NoRoom-clause-ended : goal.returns-in-Err-NoRoom-clause-ended
returns-in-Err-NoRoom-clause-ended g c =
    let worked = rw c.in-Err-NoRoom.field-0-is at c.in-Err-NoRoom.ensures in
    let off = ap (λ (it : ServerView). it.running) c.stop.ensures.rest in
    rw c.done-in-Err-NoRoom.ensures
    (record { tickets = λ on. true_false on off; cause = λ no. absurd no; run = record { run = worked.run; state_run = worked.state_run } })

pub returns-in-Err-NoRoom-clause-worked : goal.returns-in-Err-NoRoom-clause-worked
returns-in-Err-NoRoom-clause-worked g c = λ observed stands.
    let old : Mounted _ = record { core = c.args.core.now; store = c.args.store.now; state = c.args.state.now } in
    let worked = rw c.in-Err-NoRoom.field-0-is at c.in-Err-NoRoom.ensures in
    rw c.done-in-Err-NoRoom.ensures
    (full_done g.D.Disk observed old stands c.work.new.self c.stop.new.self c.work.new.store c.work.new.state c.stop.result (worked.full refl)
    c.stop.ensures.step c.stop.ensures.rest)

pub returns-in_ok-end-in-Err-Failed-clause-ended : goal.returns-in_ok-end-in-Err-Failed-clause-ended
returns-in_ok-end-in-Err-Failed-clause-ended g c =
    let store = c.args.store.now in
    let state = c.args.state.now in
    let old : Mounted _ = record { core = c.args.core.now; store = store; state = state } in
    let worked = rw c.in-Err-Failed.field-0-is at c.in-Err-Failed.ensures in
    let law = g.met.D.Disk g.world.𝓛 g.world.𝓜 g.world.𝓡 ((λ s x. x), (λ x. x), (λ x. x), λ x. x) in
    let reopened = c.in_ok-end-in-Err-Failed.ensures in
    let off = ap (λ (it : ServerView). it.running) c.stop-letters.ensures.rest in
    rw c.failed.ensures (record {
      tickets = λ on. true_false on off;
      cause = λ _. has_failed g.D.Disk old c.work.new.store c.work.new.state c.stop-letters.new.self c.reopen.new.store c.reopen.new.state
          worked.cause reopened.later;
      run = record {
        run = law.goes_on store.disk c.work.new.store.disk c.reopen.new.store.disk worked.run reopened.run.0;
        state_run = law.goes_on state.disk c.work.new.state.disk c.reopen.new.state.disk worked.state_run reopened.run.1;
      };
    })

pub returns-in_ok-end-in-Err-Failed-clause-worked : goal.returns-in_ok-end-in-Err-Failed-clause-worked
returns-in_ok-end-in-Err-Failed-clause-worked g c = λ observed stands.
    let core = c.args.core.now in
    let store = c.args.store.now in
    let state = c.args.state.now in
    let old : Mounted _ = record { core = core; store = store; state = state } in
    let will = shown_of (left_by_first core (store_of store) state.records) in
    let worked = rw c.in-Err-Failed.field-0-is at c.in-Err-Failed.ensures in
    let law = g.met.D.Disk g.world.𝓛 g.world.𝓜 g.world.𝓡 ((λ s x. x), (λ x. x), (λ x. x), λ x. x) in
    let moments = worked.moments observed stands.store in
    let state_moments = worked.state_moments observed stands.state in
    let stored : (x : List ℕ) → g.D.Disk.may_leave c.work.new.store.disk x → StandsAsEither store will.store x
    = λ x left. moments.each x (law.counts_now c.work.new.store.disk (g.D.Disk.moment store.disk) x moments.later left) in
    let recorded : (x : List ℕ) → g.D.Disk.may_leave c.work.new.state.disk x → StandsForEither state.records will.records x
    = λ x left. state_moments.each x (law.counts_now c.work.new.state.disk (g.D.Disk.moment state.disk) x state_moments.later left) in
    let end = c.in_ok-end-in-Err-Failed.end in
    let reopened = c.in_ok-end-in-Err-Failed.ensures in
    let rest = c.stop-letters.ensures.rest in
    let off = ap (λ (it : ServerView). it.running) rest in
    let held = reopened.holds store will observed stored in
    let kept = reopened.state_holds state.records will observed recorded in
    let few = few_after stands c.reopen.new.store c.reopen.new.state held kept in
    rw c.failed.ensures (record {
      site = fault_site old c.stop-letters.new.self c.reopen.new.store c.reopen.new.state end off
          (ap (λ (it : ServerView). it.log.voter) rest ∙ worked.life.1)
          (reopened.ends store state.records will observed worked.stays stored recorded (c.records-before.ensures ∙ stands.state.count)
          (fault_commits g.D.Disk old c.work.new.store stands.store worked.once))
          few.0 few.1;
      sends = ap (λ (acted : Acted). acted.letters) (c.stop-letters.ensures.step (store_of store) state.records)
          ∙ stops_letters c.work.new.self core (store_of store) state.records worked.life.1
          ∙ sym (fault_letters old end);
      stands = record { store = held; state = kept };
    })
