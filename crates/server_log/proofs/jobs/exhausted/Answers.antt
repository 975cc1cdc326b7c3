use Rattle.server_log.proofs.Said.{spent_done}
use Rattle.server_log.proofs.jobs.exhausted.Goals as goal

pub returns-clause-done : goal.returns-clause-done
returns-clause-done g c = λ entry rule unspelled records.
    let stays = (g.met.D.Disk g.world.𝓛 g.world.𝓜 g.world.𝓡 ((λ s x. x), (λ x. x), (λ x. x), λ x. x)).stays in
    let only_now = (g.met.D.Disk g.world.𝓛 g.world.𝓜 g.world.𝓡 ((λ s x. x), (λ x. x), (λ x. x), λ x. x)).only_now in
    spent_done g.D.Disk stays only_now c.args.log.now c.args.state.now entry rule unspelled records
