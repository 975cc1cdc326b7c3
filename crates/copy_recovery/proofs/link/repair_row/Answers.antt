use Rattle.pair_memory.proofs.Said.{said_done, said_or_spent}
use Rattle.copy_recovery.proofs.link.repair_row.Goals as goal

pub returns-in-Only : goal.returns-in-Only
returns-in-Only g c =
    let law = g.met.D.Disk g.world.𝓛 g.world.𝓜 g.world.𝓡 ((λ s x. x), (λ x. x), (λ x. x), λ x. x) in
    rw c.in-Only.is
    (said_or_spent g.D.Disk law.stays law.only_now c.args.here.now c.args.side.now c.catch_up.new.side c.args.store.now c.catch_up.result _
    c.catch_up.ensures.said c.catch_up.ensures.spent)

pub returns-in-Lost : goal.returns-in-Lost
returns-in-Lost g c =
    let law = g.met.D.Disk g.world.𝓛 g.world.𝓜 g.world.𝓡 ((λ s x. x), (λ x. x), (λ x. x), λ x. x) in
    rw c.in-Lost.is
    (said_done g.D.Disk law.stays law.only_now c.args.here.now c.args.side.now c.args.side.now c.args.store.now c.args.store.now c.silent.result _
    c.silent.ensures)
