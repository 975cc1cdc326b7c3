-- A boot, as the devices tell of it.
use Rattle.memory_server.proofs.server.DeskServer.boot_up.Goals as goal

pub returns-clause-site : goal.returns-clause-site
returns-clause-site g c = λ observed.
    let shown = c.self.invariant.shown observed in
    rw (← c.self.view_is) (c.in_ok-attempt.ensures.booted observed (λ none. shown.store c.if-self.false none) (shown.state c.if-self.false)).site

pub returns-clause-letters : goal.returns-clause-letters
returns-clause-letters g c = λ observed.
    let shown = c.self.invariant.shown observed in
    rw (← c.self.view_is) (c.in_ok-attempt.ensures.booted observed (λ none. shown.store c.if-self.false none) (shown.state c.if-self.false)).sends

pub returns-clause-cause : goal.returns-clause-cause
returns-clause-cause g c = rw (← c.self.view_is) c.in_ok-attempt.ensures.ended.cause

pub returns-clause-run : goal.returns-clause-run
returns-clause-run g c =
    let run = c.in_ok-attempt.ensures.ended.run in rw (← c.self.view_is) (record { stored = run.run.1; kept = run.state_run.1 })
