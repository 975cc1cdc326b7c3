use Rattle.std.proofs.Common.{◌≡◌, ◌∙◌, Err, ap, refl}
use Rattle.std.proofs.lemmas.Result.{err_from_is_err_and}
use Rattle.spec_rules.specs.Server.{Copies}
use Rattle.pair_memory.specs.declared.error.WorkError.TheVariants.{NoMemory}
use Rattle.pair_memory.specs.PairMemory.{PairMemory}
use Rattle.pair_memory.proofs.Said.{all_same, said_done}
use Rattle.pair_memory.proofs.Viewed.{left_of}
use Rattle.copy_transfer.proofs.follow.remember_and_drop.Goals as goal

pub returns-in_err-set_last_copy : goal.returns-in_err-set_last_copy
returns-in_err-set_last_copy g c =
    let law = g.met.D.Disk g.world.𝓛 g.world.𝓜 g.world.𝓡 ((λ s x. x), (λ x. x), (λ x. x), λ x. x) in
    let here = c.args.here.now in
    let store = c.args.store.now in
    let before : PairMemory = left_of c.side.view_is in
    let left : PairMemory = record before { copies = c.set_last_copy.new.self } in
    let same : left ≡ c.args.side.now = ap (λ (k : Copies). record before { copies = k }) c.in_err-set_last_copy.ensures.err ∙ c.side.view_is in
    let error = err_from_is_err_and c.from_residual.result c.from_residual.ensures.1 in
    rw (error.1, error.2)
    (said_done g.D.Disk law.stays law.only_now here c.args.side.now left store store (Err NoMemory) _
    (all_same here c.args.side.now left store store _ same refl))
