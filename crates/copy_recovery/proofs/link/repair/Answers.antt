use Rattle.std.proofs.Common.{◌≡◌, subst, rules}
use Rattle.spec_rules.specs.Copies.{repairs}
use Rattle.spec_rules.specs.Server.{silent}
use Rattle.pair_memory.specs.JobResult.{IsDone, held}
use Rattle.pair_memory.specs.PairMemory.{own_of}
use Rattle.pair_memory.proofs.Said.{said_done}
use Rattle.copy_recovery.proofs.link.repair.Goals as goal

pub returns-in-None : goal.returns-in-None
unfolding repairs
returns-in-None g c =
    let law = g.met.D.Disk g.world.𝓛 g.world.𝓜 g.world.𝓡 ((λ s x. x), (λ x. x), (λ x. x), λ x. x) in
    let side = c.args.side.now in
    let store = c.args.store.now in
    let rule : silent (own_of side store) ≡ repairs c.args.here.now (own_of side store) c.args.link = search rules in
    subst (IsDone g.D.Disk c.args.here.now (held side store) (held side store) c.silent.result) rule
    (said_done g.D.Disk law.stays law.only_now c.args.here.now side side store store c.silent.result _ c.silent.ensures)
