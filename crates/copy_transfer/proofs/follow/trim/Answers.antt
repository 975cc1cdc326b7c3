use Rattle.std.proofs.Common.{sym, ◌∙◌, Err, refl}
use Rattle.pair_memory.specs.PairMemory.{own_of}
use Rattle.pair_memory.proofs.Said.{said_done, all_same}
use Rattle.copy_transfer.proofs.Trims.{beyond_there, first_none, first_some}
use Rattle.std.proofs.lemmas.Result.{err_from_is_err_and}
use Rattle.pair_memory.specs.declared.error.WorkError.TheVariants.{NoMemory}
use Rattle.copy_transfer.proofs.follow.trim.Goals as goal

pub drop_one-requires-clause-there : goal.drop_one-requires-clause-there
drop_one-requires-clause-there g c = λ _ _.
    beyond_there (own_of c.args.side.now c.args.store.now) c.args.cell c.args.last.now.epochs c.in-Some.epoch (sym c.in_ok-beyond.ensures ∙ c.in-Some.is)

pub returns-in-None : goal.returns-in-None
returns-in-None g c =
    let own = own_of c.args.side.now c.args.store.now in
    let law = g.met.D.Disk g.world.𝓛 g.world.𝓜 g.world.𝓡 ((λ s x. x), (λ x. x), (λ x. x), λ x. x) in
    rw (← (first_none own c.args.cell c.args.last.now.epochs c.args.last.now.op c.args.holder own (sym c.in_ok-beyond.ensures ∙ c.in-None.is)))
    (said_done g.D.Disk law.stays law.only_now c.args.here.now _ _ _ _ c.say_to.result _ c.say_to.ensures)

pub returns-in-Some : goal.returns-in-Some
returns-in-Some g c =
    let own = own_of c.args.side.now c.args.store.now in
    rw (← (first_some own c.args.cell c.args.last.now.epochs c.args.last.now.op c.args.holder c.in-Some.epoch own (sym c.in_ok-beyond.ensures ∙ c.in-Some.is)))
    c.drop_one.ensures

pub returns-in_err-beyond : goal.returns-in_err-beyond
returns-in_err-beyond g c =
    let law = g.met.D.Disk g.world.𝓛 g.world.𝓜 g.world.𝓡 ((λ s x. x), (λ x. x), (λ x. x), λ x. x) in
    let here = c.args.here.now in
    let side = c.args.side.now in
    let store = c.args.store.now in
    let error = err_from_is_err_and c.from_residual.result c.from_residual.ensures.1 in
    rw (error.1, error.2) (said_done g.D.Disk law.stays law.only_now here side side store store (Err NoMemory) _ (all_same here side side store store _ refl refl))
