-- The open request goes out as it stands.
use Rattle.std.proofs.Common.{◌≡◌, Some, refl}
use Rattle.client_core.specs.ClientView.{state_of}
use Rattle.client_core.proofs.Sends.{as_it_stands, open_sent}
use Rattle.client_core.proofs.client.ClientCore.send.Goals as goal

pub returns-in_ok-sent-in-Some : goal.returns-in_ok-sent-in-Some
returns-in_ok-sent-in-Some c =
    let at_state : c.self.inside.state ≡ state_of c.args.self.now = rw (← c.self.view_is) c.self.invariant in
    let is_open : c.args.self.now.client.asked ≡ Some c.in-Some.asked = rw (← c.self.view_is) c.in-Some.is in
    open_sent c.args.self.now c.self.inside.state c.in-Some.asked c.in_ok-sent-in-Some.sent at_state is_open
    (as_it_stands _ _ _ c.in-Some.asked c.asked.inside.witnesses c.way.result c.in_ok-sent-in-Some.sent
    (rw (← c.asked.view_is) refl) c.way.ensures c.in_ok-sent-in-Some.ensures)
