-- A request that was just called goes out as it stands.
use Rattle.std.proofs.Common.{◌≡◌, refl}
use Rattle.client_core.specs.ClientView.{state_of}
use Rattle.client_core.proofs.Sends.{as_it_stands}
use Rattle.client_core.proofs.client.ClientCore.send_first.Goals as goal

pub returns : goal.returns
returns c =
    let at_state : c.self.inside.state ≡ state_of c.args.self.now = rw (← c.self.view_is) c.self.invariant in
    let same : c.asked.inside.witnesses ≡ c.args.asked.now.witnesses = rw (← c.asked.view_is) refl in
    λ client. rw (← at_state)
    (as_it_stands _ _ _ c.args.asked.now c.asked.inside.witnesses c.way.result c.in_ok-sent.sent same c.way.ensures c.in_ok-sent.ensures client)
