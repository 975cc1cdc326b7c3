use Rattle.std.proofs.Common.{Bool, Err, nat_lt, refl}
use Rattle.std.proofs.lemmas.Result.{err_from_is_err_and}
use Rattle.spec_rules.specs.Store.{free_of}
use Rattle.kept_chains.specs.Kept.{store_of}
use Rattle.pair_memory.specs.declared.error.WorkError.TheVariants.{NoMemory}
use Rattle.pair_memory.proofs.Said.{all_same, said_done}
use Rattle.copy_transfer.specs.Entries.{entry_of}
use Rattle.copy_transfer.proofs.Refused.{put_refused}
use Rattle.copy_transfer.proofs.sync.put_entry.Goals as goal

pub returns-in_err-letters : goal.returns-in_err-letters
returns-in_err-letters g c =
    let here = c.args.here.now in
    let side = c.args.side.now in
    let store = c.args.store.now in
    let law = g.met.D.Disk g.world.𝓛 g.world.𝓜 g.world.𝓡 ((λ s x. x), (λ x. x), (λ x. x), λ x. x) in
    let error = err_from_is_err_and c.from_residual.result c.from_residual.ensures.1 in
    rw (error.1, error.2) (said_done g.D.Disk law.stays law.only_now here side side store store (Err NoMemory) _ (all_same here side side store store _ refl refl))

pub returns-in_err-put_new : goal.returns-in_err-put_new
returns-in_err-put_new g c =
    let here = c.args.here.now in
    let side = c.args.side.now in
    let store = c.args.store.now in
    let law = g.met.D.Disk g.world.𝓛 g.world.𝓜 g.world.𝓡 ((λ s x. x), (λ x. x), (λ x. x), λ x. x) in
    let error = err_from_is_err_and c.from_residual-in_err-put_new.result c.from_residual-in_err-put_new.ensures.1 in
    rw (error.1, error.2) (put_refused {T = Bool} g.D.Disk law.stays law.only_now here side store c.put_new.new.store c.in_err-put_new.field-0.0
    (entry_of c.args.entry.now) c.args.next c.args.holder (nat_lt 0 (free_of (store_of store))) c.in_err-put_new.ensures.change)
