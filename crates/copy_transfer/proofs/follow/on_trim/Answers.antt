use Rattle.std.proofs.Common.{sym, ap, ◌∙◌, ◌≡◌, rules, subst, Err, refl}
use Rattle.petal_msg.specs.declared.copying.LastCopy.{LastCopy}
use Rattle.petal_table.specs.Table.{at}
use Rattle.spec_rules.specs.Copies.{on_trim}
use Rattle.spec_rules.specs.Store.{cell_cmp}
use Rattle.pair_memory.specs.PairMemory.{own_of}
use Rattle.copy_transfer.proofs.Trims.{none_known, trim_new}
use Rattle.spec_rules.specs.Server.{JobResult, silent}
use Rattle.pair_memory.specs.JobResult.{IsDone, held}
use Rattle.pair_memory.proofs.Said.{said_done, all_same}
use Rattle.std.proofs.lemmas.Result.{err_from_is_err_and}
use Rattle.pair_memory.specs.declared.error.WorkError.TheVariants.{NoMemory}
use Rattle.copy_transfer.proofs.follow.on_trim.Goals as goal

pub returns-in-None : goal.returns-in-None
returns-in-None g c =
    let own = own_of c.args.side.now c.args.store.now in
    let copy = c.in_ok-copy.copy in
    let is = c.in_ok-copy.ensures in
    let holder = sym c.holder_on.ensures ∙ c.in-Some.is in
    let none = none_known (at cell_cmp c.args.side.now.copies.last c.args.cell) (sym c.in-None.is ∙ c.last_number.ensures) in
    let rule = trim_new c.args.here.now own c.args.cell copy c.in-Some.holder holder (ap (λ (l : LastCopy). l.index) is) none in
    rw (← (rule ∙ ap (λ (l : LastCopy). on_trim c.args.here.now own l.op c.args.cell l.epochs) is)) c.trim_newly.ensures

pub returns-in_default : goal.returns-in_default
unfolding on_trim
returns-in_default g c =
    let law = g.met.D.Disk g.world.𝓛 g.world.𝓜 g.world.𝓡 ((λ s x. x), (λ x. x), (λ x. x), λ x. x) in
    let here = c.args.here.now in
    let side = c.args.side.now in
    let store = c.args.store.now in
    let rule : silent (own_of side store) ≡ on_trim here (own_of side store) c.args.op c.args.cell c.args.epochs.now = search rules in
    subst (λ (r : JobResult). IsDone g.D.Disk here (held side store) (held side store) c.silent.result r) rule
    (said_done g.D.Disk law.stays law.only_now here side side store store c.silent.result _ c.silent.ensures)

pub returns-in_err-copy : goal.returns-in_err-copy
returns-in_err-copy g c =
    let law = g.met.D.Disk g.world.𝓛 g.world.𝓜 g.world.𝓡 ((λ s x. x), (λ x. x), (λ x. x), λ x. x) in
    let here = c.args.here.now in
    let side = c.args.side.now in
    let store = c.args.store.now in
    let error = err_from_is_err_and c.from_residual.result c.from_residual.ensures.1 in
    rw (error.1, error.2) (said_done g.D.Disk law.stays law.only_now here side side store store (Err NoMemory) _ (all_same here side side store store _ refl refl))
