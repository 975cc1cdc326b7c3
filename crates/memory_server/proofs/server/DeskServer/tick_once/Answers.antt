use Rattle.std.proofs.Common.{ap, sym, ◌∙◌}
use Rattle.spec_rules.specs.Jobs.{Acted}
use Rattle.server_host.specs.declared.host.HostResult.{HostResult}
use Rattle.memory_server.proofs.Keeping.{none_there}
use Rattle.memory_server.proofs.Plans.{both_rest}
use Rattle.memory_server.proofs.Ticking.{tick_site}
use Rattle.memory_server.proofs.server.DeskServer.tick_once.Goals as goal

pub returns-clause-site : goal.returns-clause-site
returns-clause-site g c = λ observed.
    let it = c.self.inside in
    let ticked = c.in_ok-letters.ensures in
    let none = none_there it.blank (sym c.is_some.ensures ∙ c.if-is_some.false) in
    rw (← c.self.view_is, none)
    (tick_site it.core c.tick.new.self it.store c.tick.new.store it.state c.in_ok-letters.letters (ticked.ok observed it.state.records) ticked.life.1)

pub returns-clause-letters : goal.returns-clause-letters
returns-clause-letters g c = λ observed.
    let it = c.self.inside in
    let none = none_there it.blank (sym c.is_some.ensures ∙ c.if-is_some.false) in
    rw (← c.self.view_is, none)
    (ap (λ (taken : HostResult). taken.letters) c.done.ensures
    ∙ ap (λ (acted : Acted). acted.letters) (c.in_ok-letters.ensures.ok observed it.state.records))

pub returns-then-is_some-clause-run : goal.returns-then-is_some-clause-run
returns-then-is_some-clause-run g c = both_rest c.args.self.now
