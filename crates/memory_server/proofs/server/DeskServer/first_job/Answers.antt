-- The first job, of a server whose data device is not blank.
use Rattle.std.proofs.Common.{sym, ◌∙◌}
use Rattle.memory_server.proofs.Booting.{ended_fit, stands_shown}
use Rattle.memory_server.proofs.Keeping.{none_there}
use Rattle.memory_server.proofs.server.DeskServer.first_job.Goals as goal

pub returns-clause-site : goal.returns-clause-site
returns-clause-site g c = λ observed.
    let out = sym c.is_some.ensures ∙ c.if-is_some.false in
    let none = none_there c.self.inside.blank out in
    let shown = c.self.invariant.shown observed in
    rw (← c.self.view_is, none)
    (c.in_ok-attempt.ensures.worked observed (record { store = shown.store c.if-self.false out; state = shown.state c.if-self.false })).site

pub returns-clause-letters : goal.returns-clause-letters
returns-clause-letters g c = λ observed.
    let out = sym c.is_some.ensures ∙ c.if-is_some.false in
    let none = none_there c.self.inside.blank out in
    let shown = c.self.invariant.shown observed in
    rw (← c.self.view_is, none)
    (c.in_ok-attempt.ensures.worked observed (record { store = shown.store c.if-self.false out; state = shown.state c.if-self.false })).sends

pub returns-clause-cause : goal.returns-clause-cause
returns-clause-cause g c =
    let none = none_there c.self.inside.blank (sym c.is_some.ensures ∙ c.if-is_some.false) in
    rw (← c.self.view_is, none) c.in_ok-attempt.ensures.ended.cause

pub returns-clause-run : goal.returns-clause-run
returns-clause-run g c =
    let none = none_there c.self.inside.blank (sym c.is_some.ensures ∙ c.if-is_some.false) in
    let run = c.in_ok-attempt.ensures.ended.run in
    rw (← c.self.view_is, none) (record { stored = run.run.1; kept = run.state_run.1 })

pub invariant_of-self-2 : goal.invariant_of-self-2
invariant_of-self-2 g c =
    let out = sym c.is_some.ensures ∙ c.if-is_some.false in
    let none = none_there c.self.inside.blank out in
    rw none (record {
      fit = ended_fit _ c.in_ok-attempt.ensures.ended;
      shown = λ observed.
          let shown = c.self.invariant.shown observed in
          stands_shown _
          (c.in_ok-attempt.ensures.worked observed (record { store = shown.store c.if-self.false out; state = shown.state c.if-self.false })).stands;
    })
