use Rattle.server_log.proofs.Said.{said_done}
use Rattle.server_log.proofs.jobs.applied.Goals as goal

pub returns : goal.returns
returns g c =
    let stays = (g.met.D.Disk g.world.𝓛 g.world.𝓜 g.world.𝓡 ((λ s x. x), (λ x. x), (λ x. x), λ x. x)).stays in
    let only_now = (g.met.D.Disk g.world.𝓛 g.world.𝓜 g.world.𝓡 ((λ s x. x), (λ x. x), (λ x. x), λ x. x)).only_now in
    said_done g.D.Disk stays only_now c.args.log.now c.apply_alone.new.log c.args.state.now c.apply_alone.result _ c.apply_alone.ensures
