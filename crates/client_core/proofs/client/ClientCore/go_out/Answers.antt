-- A request goes out: by its command, or to its servers.
use Rattle.std.proofs.Common.{◌≡◌, Some, None, sym, ◌∙◌}
use Rattle.std.proofs.lemmas.Result.{IfOk-weaker}
use Rattle.spec_rules.specs.Clients.{to_propose}
use Rattle.client_core.specs.Open.{on_way}
use Rattle.client_core.proofs.Sends.{goes_by_command, goes_by_sending}
use Rattle.client_core.proofs.client.ClientCore.go_out.Goals as goal

pub returns-in-Some : goal.returns-in-Some
returns-in-Some c =
    let wanted : to_propose c.args.state.now c.args.self.now.me (on_way c.args.asked.now c.args.witnesses c.args.way) ≡ Some c.in-Some.command =
    rw (← c.self.view_is) (sym c.to_propose.ensures ∙ c.in-Some.is) in
    IfOk-weaker c.propose.result _ _
    (goes_by_command c.args.state.now c.args.self.now.me c.args.self.now.client.asks c.args.self.now.servers c.args.witnesses c.args.asked.now c.args.way
    c.in-Some.command c.requires wanted)
    (c.propose.ensures c.args.state.now)

pub returns-in-None : goal.returns-in-None
returns-in-None c =
    let nothing : to_propose c.args.state.now c.args.self.now.me (on_way c.args.asked.now c.args.witnesses c.args.way) ≡ None =
    rw (← c.self.view_is) (sym c.to_propose.ensures ∙ c.in-None.is) in
    IfOk-weaker c.send_to.result _ _
    (goes_by_sending c.args.state.now c.args.self.now.me c.args.self.now.client.asks c.args.witnesses c.args.asked.now c.args.way nothing)
    c.send_to.ensures.sent
