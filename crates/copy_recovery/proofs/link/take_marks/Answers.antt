use Rattle.std.proofs.Common.{sym, subst, ◌∙◌}
use Rattle.pair_memory.specs.JobResult.{IsDone, held}
use Rattle.pair_memory.specs.PairMemory.{own_of}
use Rattle.pair_memory.proofs.Said.{said_done}
use Rattle.copy_recovery.proofs.OldMarks.{all_taken, none_taken}
use Rattle.copy_recovery.proofs.link.take_marks.Goals as goal

pub returns-then-is_empty : goal.returns-then-is_empty
returns-then-is_empty g c =
    let law = g.met.D.Disk g.world.𝓛 g.world.𝓜 g.world.𝓡 ((λ s x. x), (λ x. x), (λ x. x), λ x. x) in
    let here = c.args.here.now in
    let side = c.args.side.now in
    let store = c.args.store.now in
    subst (IsDone g.D.Disk here (held side store) (held side store) c.silent.result)
    (none_taken (own_of side store) c.args.row.now c.args.kind c.args.cells.now (sym c.is_empty.ensures ∙ c.if-is_empty.true))
    (said_done g.D.Disk law.stays law.only_now here side side store store c.silent.result _ c.silent.ensures)

pub returns : goal.returns
returns g c =
    let side = c.args.side.now in
    let store = c.args.store.now in
    subst (IsDone g.D.Disk c.args.here.now (held side store) (held side c.take_all.new.store) c.take_all.result)
    (all_taken (own_of side store) c.args.row.now c.args.kind c.args.cells.now (sym c.is_empty.ensures ∙ c.if-is_empty.false))
    c.take_all.ensures
