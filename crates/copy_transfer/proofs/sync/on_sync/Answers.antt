use Rattle.std.proofs.Common.{◌≡◌, ◌==◌, ℕ, true, sym, ap, ◌∙◌, arith, rules, subst}
use Rattle.std.proofs.lemmas.Bool.Decides.{nat_tests}
use Rattle.std.specs.Prelude.{option_map}
use Rattle.petal_base.specs.declared.cell.Cell.{Cell}
use Rattle.petal_base.specs.Cells.{cell_of}
use Rattle.petal_msg.specs.declared.copying.LastCopy.{LastCopy}
use Rattle.petal_table.specs.Table.{at}
use Rattle.spec_rules.specs.Copies.{cell_holder, on_sync}
use Rattle.spec_rules.specs.Store.{cell_cmp}
use Rattle.pair_memory.specs.PairMemory.{own_of}
use Rattle.copy_transfer.specs.Entries.{entry_of}
use Rattle.copy_transfer.proofs.Entries.{known_place, sync_is}
use Rattle.spec_rules.specs.Server.{JobResult, silent}
use Rattle.pair_memory.specs.JobResult.{IsDone, held}
use Rattle.pair_memory.proofs.Said.{said_done}
use Rattle.copy_transfer.proofs.sync.on_sync.Goals as goal

pub returns-in-Some-Some : goal.returns-in-Some-Some
returns-in-Some-Some g c =
    let own = own_of c.args.side.now c.args.store.now in
    let entry = entry_of c.args.entry.now in
    let cell = cell_of c.args.entry.now.key in
    let holder = sym (ap (cell_holder c.args.here.now) c.cell-cell.ensures) ∙ sym c.holder_on.ensures ∙ c.in-Some-Some.is-0 in
    let last = known_place (at cell_cmp c.args.side.now.copies.last cell) c.in-Some-Some.op c.in-Some-Some.index
    (sym (ap (λ (k : Cell). option_map {U = ℕ × ℕ} (λ (l : LastCopy). (l.op, l.index)) (at cell_cmp c.args.side.now.copies.last k)) c.cell-cell.ensures)
    ∙ sym c.last_place.ensures ∙ c.in-Some-Some.is-1) in
    let number = last.1.1.0 in
    let same : (entry.op == last.0.op) ≡ true = grind (arith, nat_tests, number, c.if-op-entry.true) in
    rw (← (sync_is c.args.here.now own entry c.in-Some-Some.holder last.0 holder last.1.0 same)) (c.hear_entry.ensures last.0 last.1.0 last.1.1.1)

pub returns-in_default : goal.returns-in_default
unfolding on_sync
returns-in_default g c =
    let law = g.met.D.Disk g.world.𝓛 g.world.𝓜 g.world.𝓡 ((λ s x. x), (λ x. x), (λ x. x), λ x. x) in
    let here = c.args.here.now in
    let side = c.args.side.now in
    let store = c.args.store.now in
    let rule : silent (own_of side store) ≡ on_sync here (own_of side store) (entry_of c.args.entry.now) = search rules in
    subst (λ (r : JobResult). IsDone g.D.Disk here (held side store) (held side store) c.silent.result r) rule
    (said_done g.D.Disk law.stays law.only_now here side side store store c.silent.result _ c.silent.ensures)
