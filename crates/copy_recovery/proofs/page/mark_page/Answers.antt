use Rattle.std.proofs.Common.{ap, ◌∙◌, arith, Err, refl}
use Rattle.std.proofs.lemmas.Result.{err_from_is_err_and}
use Rattle.petal_table.specs.Table.{at}
use Rattle.spec_rules.specs.Server.{Copies}
use Rattle.spec_rules.specs.State.{link_cmp}
use Rattle.pair_memory.specs.Copies.{restored}
use Rattle.pair_memory.specs.declared.error.WorkError.TheVariants.{NoMemory}
use Rattle.pair_memory.proofs.Said.{all_same, said_done}
use Rattle.pair_memory.proofs.Viewed.{left_of}
use Rattle.pair_memory.proofs.Restored.{progress_there, restored_is}
use Rattle.copy_recovery.proofs.Pages.{refused_page}
use Rattle.copy_recovery.proofs.page.mark_page.Goals as goal

pub restore_progress-requires : goal.restore_progress-requires
restore_progress-requires g c =
    let there = ap (λ (k : Copies). at link_cmp k.progress c.link_id-link.result) c.in_ok-set_progress.ensures.ok
    ∙ progress_there c.side.inside.copies c.link_id-link.result _ in
    grind (arith, there)

pub returns-in-Err : goal.returns-in-Err
returns-in-Err g c =
    let back = c.restore_progress.ensures
    ∙ ap (λ (k : Copies). restored k c.link_id-link.result c.found_progress-found.result) c.in_ok-set_progress.ensures.ok
    ∙ restored_is c.side.inside.copies c.link_id-link.result _ c.found_progress-found.result c.found_progress-found.ensures.sorted
    c.found_progress-found.ensures.value in
    rw (← c.side.view_is, c.from.ensures)
    (refused_page g.D.Disk c.args.here.now _ c.restore_progress.new.self c.args.store.now c.mark.new.store c.in-Err.error _ back
    (rw (c.cell_at.ensures, c.in-Err.is) at c.mark.ensures))

pub returns-in_err-set_progress : goal.returns-in_err-set_progress
returns-in_err-set_progress g c =
    let law = g.met.D.Disk g.world.𝓛 g.world.𝓜 g.world.𝓡 ((λ s x. x), (λ x. x), (λ x. x), λ x. x) in
    let store = c.args.store.now in
    let error = err_from_is_err_and c.from_residual.result c.from_residual.ensures.1 in
    rw (← c.side.view_is, error.1, error.2)
    (said_done g.D.Disk law.stays law.only_now c.args.here.now _ _ store store (Err NoMemory) _
    (all_same c.args.here.now _ _ store store _ (ap (λ (k : Copies). record (left_of c.side.view_is) { copies = k }) c.in_err-set_progress.ensures.err) refl))
