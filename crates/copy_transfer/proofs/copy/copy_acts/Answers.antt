use Rattle.std.proofs.Common.{◌≡◌, ◌∙◌, sym, subst}
use Rattle.petal_msg.specs.declared.copying.CopyAction.{CopyAction}
use Rattle.petal_msg.specs.declared.copying.CopyAction.TheVariants as copy_action
use Rattle.spec_rules.specs.Copies.{copy_acts, copy_stage}
use Rattle.spec_rules.specs.Progress.{with_copying}
use Rattle.kept_chains.specs.Kept.{store_of}
use Rattle.pair_memory.specs.JobResult.{IsDone, held}
use Rattle.pair_memory.specs.PairMemory.{own_of}
use Rattle.pair_memory.proofs.Said.{said_done}
use Rattle.copy_transfer.proofs.copy.copy_acts.Goals as goal

pub returns-in-Trim : goal.returns-in-Trim
returns-in-Trim g c =
    let law = g.met.D.Disk g.world.𝓛 g.world.𝓜 g.world.𝓡 ((λ s x. x), (λ x. x), (λ x. x), λ x. x) in
    let here = c.args.here.now in
    let side = c.args.side.now in
    let store = c.args.store.now in
    let stage : copy_action.Trim ≡ copy_stage (store_of store) c.args.cell c.args.copy = sym c.in-Trim.is ∙ c.copy_stage.ensures in
    subst (λ (a : CopyAction). IsDone g.D.Disk here (held side store) (held c.trim.new.side store) c.trim.result
    (copy_acts here (with_copying (own_of side store) c.args.cell c.args.copy) c.args.cell c.args.copy a)) stage
    (said_done g.D.Disk law.stays law.only_now here side c.trim.new.side store store c.trim.result _ c.trim.ensures)

pub returns-in-Close : goal.returns-in-Close
returns-in-Close g c =
    let law = g.met.D.Disk g.world.𝓛 g.world.𝓜 g.world.𝓡 ((λ s x. x), (λ x. x), (λ x. x), λ x. x) in
    let here = c.args.here.now in
    let side = c.args.side.now in
    let store = c.args.store.now in
    let stage : copy_action.Close ≡ copy_stage (store_of store) c.args.cell c.args.copy = sym c.in-Close.is ∙ c.copy_stage.ensures in
    subst (λ (a : CopyAction). IsDone g.D.Disk here (held side store) (held c.close.new.side store) c.close.result
    (copy_acts here (with_copying (own_of side store) c.args.cell c.args.copy) c.args.cell c.args.copy a)) stage
    (said_done g.D.Disk law.stays law.only_now here side c.close.new.side store store c.close.result _ c.close.ensures)
