-- A boot, from before both stores were opened again.
use Rattle.std.proofs.Common.{arith}
use Rattle.memory_server.proofs.Booting.{ended_before, from_before}
use Rattle.memory_server.specs.Server.{Mounted}
use Rattle.memory_server.proofs.boot.boot_again.Goals as goal

pub returns-clause-ended : goal.returns-clause-ended
returns-clause-ended g c =
    let store = c.args.store.now in
    let state = c.args.state.now in
    let old : Mounted _ = record { core = c.args.core.now; store = store; state = state } in
    let between : Mounted _ = record { core = c.args.core.now; store = c.reread.new.store; state = c.reread.new.state } in
    let later = c.reread.ensures.later in
    let law = g.met.D.Disk g.world.𝓛 g.world.𝓜 g.world.𝓡 ((λ s x. x), (λ x. x), (λ x. x), λ x. x) in
    let run = c.reread.ensures.run in
    let ended = c.in_ok-attempt.ensures.ended in
    ended_before g.D.Disk old between (omega (arith, later))
    (record {
      run = law.goes_on store.disk c.reread.new.store.disk c.boot_opened.new.store.disk run.0 ended.run.run;
      state_run = law.goes_on state.disk c.reread.new.state.disk c.boot_opened.new.state.disk run.1 ended.run.state_run;
    })
    ended

pub returns-clause-booted : goal.returns-clause-booted
returns-clause-booted g c = λ observed holds kept.
    let old : Mounted _ = record { core = c.args.core.now; store = c.args.store.now; state = c.args.state.now } in
    let again = c.in_ok-reread.ensures.again observed holds kept in
    from_before old c.reread.new.store c.reread.new.state c.requires.stopped again
    (c.in_ok-attempt.ensures.booted observed again.holds again.state_holds)
