use Rattle.server_log.proofs.Said.{said_done}
use Rattle.server_log.proofs.jobs.proposed.Goals as goal

pub returns : goal.returns
returns g c =
    let stays = (g.met.D.Disk g.world.𝓛 g.world.𝓜 g.world.𝓡 ((λ s x. x), (λ x. x), (λ x. x), λ x. x)).stays in
    let only_now = (g.met.D.Disk g.world.𝓛 g.world.𝓜 g.world.𝓡 ((λ s x. x), (λ x. x), (λ x. x), λ x. x)).only_now in
    said_done g.D.Disk stays only_now c.args.log.now c.on_propose.new.self c.args.state.now c.on_propose.result
    _ (c.on_propose.ensures c.args.state.now.records)
