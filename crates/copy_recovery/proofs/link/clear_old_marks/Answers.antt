use Rattle.std.proofs.Common.{◌≡◌, ◌∙◌, ℕ, [], take, sym, subst, ap, arith}
use Rattle.busy_marks.specs.declared.marks.MarkKind.TheVariants as mark
use Rattle.pair_memory.specs.JobResult.{IsDone, held}
use Rattle.pair_memory.specs.PairMemory.{own_of}
use Rattle.spec_rules.specs.Copies.{clears_old_marks, idle_cells, takes_marks}
use Rattle.copy_recovery.proofs.OldMarks.{busy_first}
use Rattle.copy_recovery.proofs.link.clear_old_marks.Goals as goal

-- none has a busy mark
pub returns-then-busy-eq0 : goal.returns-then-busy-eq0
returns-then-busy-eq0 g c =
    let state = c.args.here.now.state in
    let own = own_of c.args.side.now c.args.store.now in
    let none : [] ≡ idle_cells state c.args.row.now own mark.Busy =
    sym (ap (λ (n : ℕ). take n c.idle_marks-busy.new.into) c.if-busy-eq0.true) ∙ c.idle_marks-busy.ensures.cells in
    subst (IsDone g.D.Disk c.args.here.now (held c.args.side.now c.args.store.now) (held c.args.side.now c.take_marks.new.store) c.take_marks.result)
    (ap (takes_marks own c.args.row.now mark.Stale) c.idle_marks-stale.ensures.cells ∙ ap (clears_old_marks state own c.args.row.now) none)
    c.take_marks.ensures

pub returns : goal.returns
returns g c =
    let state = c.args.here.now.state in
    let own = own_of c.args.side.now c.args.store.now in
    subst (IsDone g.D.Disk c.args.here.now (held c.args.side.now c.args.store.now) (held c.args.side.now c.take_marks-2.new.store) c.take_marks-2.result)
    (busy_first state own c.args.row.now c.idle_marks-busy.new.into c.idle_marks-busy.result (omega (arith, c.if-busy-eq0.false))
    (omega (arith, c.idle_marks-busy.ensures.few)) ∙ ap (clears_old_marks state own c.args.row.now) c.idle_marks-busy.ensures.cells)
    c.take_marks-2.ensures
