use Rattle.std.proofs.Common.{◌≡◌, ◌==◌, true, sym, ap, ◌∙◌, arith, rules, subst}
use Rattle.std.proofs.lemmas.Bool.Decides.{nat_tests}
use Rattle.petal_table.specs.Table.{at}
use Rattle.spec_rules.specs.Store.{cell_cmp}
use Rattle.pair_memory.specs.PairMemory.{PairMemory, own_of}
use Rattle.copy_transfer.proofs.Stages.{synced_is}
use Rattle.spec_rules.specs.Copies.{on_synced}
use Rattle.spec_rules.specs.Server.{JobResult, silent}
use Rattle.pair_memory.specs.JobResult.{IsDone, held}
use Rattle.pair_memory.proofs.Said.{said_done}
use Rattle.copy_transfer.proofs.holder.on_synced.Goals as goal

pub returns-in-Some : goal.returns-in-Some
returns-in-Some g c =
    let is = ap (λ (s : PairMemory). at cell_cmp s.copies.pending c.args.cell) (sym c.side.view_is) ∙ sym c.copying_on.ensures ∙ c.in-Some.is in
    let same : (c.in-Some.copy.index == c.args.index) ≡ true = grind (arith, nat_tests, c.if-copy-index.true) in
    rw (← (synced_is c.args.here.now (own_of c.args.side.now c.args.store.now) c.args.op c.args.cell c.args.index c.in-Some.copy c.synced-next.result is
    (sym c.is_syncing.ensures.syncing ∙ c.if-is_syncing.true) same c.synced-next.ensures)) c.copy_acts.ensures

pub returns-in_default : goal.returns-in_default
unfolding on_synced
returns-in_default g c =
    let law = g.met.D.Disk g.world.𝓛 g.world.𝓜 g.world.𝓡 ((λ s x. x), (λ x. x), (λ x. x), λ x. x) in
    let here = c.args.here.now in
    let side = c.args.side.now in
    let store = c.args.store.now in
    let rule : silent (own_of side store) ≡ on_synced here (own_of side store) c.args.op c.args.cell c.args.index = search rules in
    subst (λ (r : JobResult). IsDone g.D.Disk here (held side store) (held side store) c.silent.result r) rule
    (said_done g.D.Disk law.stays law.only_now here side side store store c.silent.result _ c.silent.ensures)
