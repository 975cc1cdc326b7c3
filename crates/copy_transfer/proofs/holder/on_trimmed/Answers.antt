use Rattle.std.proofs.Common.{◌≡◌, ◌==◌, ◌&&◌, not, true, sym, ap, ◌∙◌, arith, rules, subst}
use Rattle.std.proofs.lemmas.Bool.Decides.{nat_tests}
use Rattle.petal_table.specs.Table.{at}
use Rattle.spec_rules.specs.Store.{cell_cmp}
use Rattle.pair_memory.specs.PairMemory.{PairMemory, own_of}
use Rattle.copy_transfer.proofs.Stages.{trimmed_is}
use Rattle.spec_rules.specs.Copies.{on_trimmed}
use Rattle.spec_rules.specs.Server.{JobResult, silent}
use Rattle.pair_memory.specs.JobResult.{IsDone, held}
use Rattle.pair_memory.proofs.Said.{said_done}
use Rattle.copy_transfer.proofs.holder.on_trimmed.Goals as goal

pub returns-in-Some : goal.returns-in-Some
returns-in-Some g c =
    let is = ap (λ (s : PairMemory). at cell_cmp s.copies.pending c.args.cell) (sym c.side.view_is) ∙ sym c.copying_on.ensures ∙ c.in-Some.is in
    let counts : ((c.in-Some.copy.op == c.args.op) && not c.in-Some.copy.trimmed) ≡ true = grind (arith, nat_tests, c.if-copy-op.true, c.if-not-copy.true) in
    rw (← (trimmed_is c.args.here.now (own_of c.args.side.now c.args.store.now) c.args.op c.args.cell c.in-Some.copy is counts)) c.copy_acts.ensures

pub returns-in_default : goal.returns-in_default
unfolding on_trimmed
returns-in_default g c =
    let law = g.met.D.Disk g.world.𝓛 g.world.𝓜 g.world.𝓡 ((λ s x. x), (λ x. x), (λ x. x), λ x. x) in
    let here = c.args.here.now in
    let side = c.args.side.now in
    let store = c.args.store.now in
    let rule : silent (own_of side store) ≡ on_trimmed here (own_of side store) c.args.op c.args.cell = search rules in
    subst (λ (r : JobResult). IsDone g.D.Disk here (held side store) (held side store) c.silent.result r) rule
    (said_done g.D.Disk law.stays law.only_now here side side store store c.silent.result _ c.silent.ensures)
