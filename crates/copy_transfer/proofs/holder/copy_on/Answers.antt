use Rattle.std.proofs.Common.{sym, ap, ◌∙◌, ◌≡◌, rules, subst}
use Rattle.petal_table.specs.Table.{at}
use Rattle.spec_rules.specs.Store.{cell_cmp}
use Rattle.pair_memory.specs.PairMemory.{PairMemory, own_of}
use Rattle.std.specs.List.Sorted.{IsStrictlySortedBy}
use Rattle.std.specs.Map.{keys_of}
use Rattle.std.proofs.Common.{subst}
use Rattle.copy_transfer.proofs.Stages.{acts_still}
use Rattle.spec_rules.specs.Copies.{copies_on}
use Rattle.spec_rules.specs.Server.{JobResult, silent}
use Rattle.pair_memory.specs.JobResult.{IsDone, held}
use Rattle.pair_memory.proofs.Said.{said_done}
use Rattle.copy_transfer.proofs.holder.copy_on.Goals as goal

pub returns-in-Some : goal.returns-in-Some
returns-in-Some g c =
    let is = ap (λ (s : PairMemory). at cell_cmp s.copies.pending c.args.cell) (sym c.side.view_is) ∙ sym c.copying_on.ensures ∙ c.in-Some.is in
    let sorted = subst (λ (s : PairMemory). IsStrictlySortedBy cell_cmp (keys_of s.copies.pending)) c.side.view_is c.count.ensures.sorted in
    rw (acts_still c.args.here.now (own_of c.args.side.now c.args.store.now) c.args.cell c.in-Some.copy sorted is) c.copy_acts.ensures

pub returns-in-None : goal.returns-in-None
unfolding copies_on
returns-in-None g c =
    let law = g.met.D.Disk g.world.𝓛 g.world.𝓜 g.world.𝓡 ((λ s x. x), (λ x. x), (λ x. x), λ x. x) in
    let here = c.args.here.now in
    let side = c.args.side.now in
    let store = c.args.store.now in
    let rule : silent (own_of side store) ≡ copies_on here (own_of side store) c.args.cell = search rules in
    subst (λ (r : JobResult). IsDone g.D.Disk here (held side store) (held side store) c.silent.result r) rule
    (said_done g.D.Disk law.stays law.only_now here side side store store c.silent.result _ c.silent.ensures)
