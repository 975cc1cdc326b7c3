-- The request waits still, and goes out in the state that the entries made.
use Rattle.std.proofs.Common.{◌≡◌, length, refl, ap, ◌∙◌}
use Rattle.spec_rules.specs.State.{State}
use Rattle.spec_rules.proofs.Applied.{rev_after}
use Rattle.client_core.proofs.Sends.{waited_is}
use Rattle.client_core.proofs.client.ClientCore.come_out.Goals as goal

pub returns-in_ok-letters-in-Waits-clause-ok : goal.returns-in_ok-letters-in-Waits-clause-ok
returns-in_ok-letters-in-Waits-clause-ok c =
    let here = c.args.learning in
    let long : c.rev.result ≡ length here.applied.items =
    c.rev.ensures.value ∙ ap (λ (s : State). s.rev) c.requires.state ∙ rev_after c.args.self.now.servers here.applied.items in
    waited_is c.args.self.now c.has_sent.new.self here c.in-Waits.witnesses c.in_ok-post-in-Waits.field-0 c.in_ok-letters-in-Waits.letters
    c.in-Waits.is (c.in_ok-post-in-Waits.ensures here.applied.items) (rw (← c.me.ensures, ← long) c.in_ok-letters-in-Waits.ensures)
    (rw (c.has_sent.ensures, c.has_witnesses.ensures, c.has_applied-in-Waits.ensures) refl)
