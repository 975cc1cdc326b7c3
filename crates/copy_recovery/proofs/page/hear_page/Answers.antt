use Rattle.std.proofs.Common.{◌≡◌, subst, rules}
use Rattle.spec_rules.specs.Copies.{hears_page}
use Rattle.spec_rules.specs.Server.{silent}
use Rattle.spec_rules.specs.State.{other_in}
use Rattle.pair_memory.specs.JobResult.{IsDone, held}
use Rattle.pair_memory.specs.PairMemory.{own_of}
use Rattle.pair_memory.proofs.Said.{said_done}
use Rattle.copy_recovery.proofs.page.hear_page.Goals as goal

pub returns-then-is_none : goal.returns-then-is_none
returns-then-is_none g c =
    let law = g.met.D.Disk g.world.𝓛 g.world.𝓜 g.world.𝓡 ((λ s x. x), (λ x. x), (λ x. x), λ x. x) in
    let here = c.args.here.now in
    let side = c.args.side.now in
    let store = c.args.store.now in
    let own = own_of side store in
    let rule : silent own ≡ hears_page own c.args.after c.args.block c.args.row.now (other_in here.state here.me c.args.row.now) = search rules in
    subst (IsDone g.D.Disk here (held side store) (held side store) c.silent.result) rule
    (said_done g.D.Disk law.stays law.only_now here side side store store c.silent.result _ c.silent.ensures)

pub returns-else-not-before : goal.returns-else-not-before
returns-else-not-before g c =
    let law = g.met.D.Disk g.world.𝓛 g.world.𝓜 g.world.𝓡 ((λ s x. x), (λ x. x), (λ x. x), λ x. x) in
    let here = c.args.here.now in
    let side = c.args.side.now in
    let store = c.args.store.now in
    let own = own_of side store in
    let rule : silent own ≡ hears_page own c.args.after c.args.block c.args.row.now (other_in here.state here.me c.args.row.now) = search rules in
    subst (IsDone g.D.Disk here (held side store) (held side store) c.silent-else-not-before.result) rule
    (said_done g.D.Disk law.stays law.only_now here side side store store c.silent-else-not-before.result _ c.silent-else-not-before.ensures)
