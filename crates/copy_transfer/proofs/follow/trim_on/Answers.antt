use Rattle.std.proofs.Common.{◌≡◌, rules, subst}
use Rattle.spec_rules.specs.Copies.{trims_on}
use Rattle.spec_rules.specs.Server.{JobResult, silent}
use Rattle.pair_memory.specs.JobResult.{IsDone, held}
use Rattle.pair_memory.specs.PairMemory.{own_of}
use Rattle.pair_memory.proofs.Said.{said_done}
use Rattle.copy_transfer.proofs.follow.trim_on.Goals as goal

pub returns-in-None-default : goal.returns-in-None-default
unfolding trims_on
returns-in-None-default g c =
    let law = g.met.D.Disk g.world.𝓛 g.world.𝓜 g.world.𝓡 ((λ s x. x), (λ x. x), (λ x. x), λ x. x) in
    let here = c.args.here.now in
    let side = c.args.side.now in
    let store = c.args.store.now in
    let rule : silent (own_of side store) ≡ trims_on here (own_of side store) c.args.cell = search rules in
    subst (λ (r : JobResult). IsDone g.D.Disk here (held side store) (held side store) c.silent.result r) rule
    (said_done g.D.Disk law.stays law.only_now here side side store store c.silent.result _ c.silent.ensures)
