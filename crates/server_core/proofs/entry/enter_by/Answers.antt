use Rattle.pair_memory.proofs.Entering.{entered_nothing}
use Rattle.server_core.proofs.entry.enter_by.Goals as goal

pub returns-in-Some : goal.returns-in-Some
returns-in-Some g c = λ state same.
    let before = rw c.in-Some.is at same in
    rw c.in-Some.is (rw (c.new-here.ensures, before) at c.enter_all.ensures)

pub returns-in-None : goal.returns-in-None
returns-in-None g c = λ state same.
    let law = g.met.D.Disk g.world.𝓛 g.world.𝓜 g.world.𝓡 ((λ s x. x), (λ x. x), (λ x. x), λ x. x) in
    rw c.in-None.is
    (entered_nothing g.D.Disk law.stays law.only_now (record { state = state; me = c.args.me; inc = c.args.inc }) c.args.side.now c.args.store.now tt
    c.requires.tickets)
