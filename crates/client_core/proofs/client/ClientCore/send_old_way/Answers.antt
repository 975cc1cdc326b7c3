-- The open request goes the old way.
use Rattle.std.proofs.Common.{◌≡◌, Some, refl}
use Rattle.client_core.specs.ClientView.{state_of}
use Rattle.client_core.proofs.Sends.{old_way_sent}
use Rattle.client_core.proofs.client.ClientCore.send_old_way.Goals as goal

pub returns-in_ok-sent-in-Some : goal.returns-in_ok-sent-in-Some
returns-in_ok-sent-in-Some c =
    let at_state : c.self.inside.state ≡ state_of c.args.self.now = rw (← c.self.view_is) c.self.invariant in
    let is_open : c.args.self.now.client.asked ≡ Some c.in-Some.asked = rw (← c.self.view_is) c.in-Some.is in
    old_way_sent c.args.self.now c.self.inside.state c.in-Some.asked c.asked.inside.witnesses _ c.in_ok-sent-in-Some.sent at_state is_open
    (rw (← c.asked.view_is) refl) refl c.in_ok-sent-in-Some.ensures
