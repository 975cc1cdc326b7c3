use Rattle.pair_memory.proofs.Said.{said_done}
use Rattle.copy_recovery.proofs.page.turn_page.Goals as goal

pub returns-in-None : goal.returns-in-None
returns-in-None g c =
    let law = g.met.D.Disk g.world.𝓛 g.world.𝓜 g.world.𝓡 ((λ s x. x), (λ x. x), (λ x. x), λ x. x) in
    let store = c.args.store.now in
    rw c.in-None.is
    (said_done g.D.Disk law.stays law.only_now c.args.here.now c.args.side.now c.end_pages.new.side store store c.end_pages.result _ c.end_pages.ensures)
