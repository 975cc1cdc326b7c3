-- The open request goes out in a state with more entries.
use Rattle.std.proofs.Common.{◌≡◌, Some}
use Rattle.client_core.proofs.Sends.{open_sent_in}
use Rattle.client_core.proofs.client.ClientCore.send_in.Goals as goal

pub returns-in_ok-sent-in-Some : goal.returns-in_ok-sent-in-Some
returns-in_ok-sent-in-Some c =
    let is_open : c.args.self.now.client.asked ≡ Some c.in-Some.asked = rw (← c.self.view_is) c.in-Some.is in
    λ log. open_sent_in c.args.self.now c.args.state.now log c.args.witnesses c.in-Some.asked c.way.result c.in_ok-sent-in-Some.sent is_open c.way.ensures
    c.in_ok-sent-in-Some.ensures
