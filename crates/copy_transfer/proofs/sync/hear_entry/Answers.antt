use Rattle.std.proofs.Common.{◌≡◌, ◌==◌, Err, true, false, nat_lt, refl, sym, ap, ◌∙◌, arith}
use Rattle.std.proofs.lemmas.Result.{err_from_is_err_and}
use Rattle.std.proofs.lemmas.Bool.Decides.{nat_tests}
use Rattle.std.specs.Prelude.{option_map}
use Rattle.petal_base.specs.declared.cell.Cell.{Cell}
use Rattle.petal_table.specs.Table.{at}
use Rattle.spec_rules.specs.Store.{cell_cmp}
use Rattle.pair_memory.specs.declared.error.WorkError.TheVariants.{NoMemory}
use Rattle.pair_memory.specs.PairMemory.{own_of}
use Rattle.pair_memory.proofs.Said.{all_same, said_done}
use Rattle.copy_transfer.specs.Entries.{entry_of, put_at}
use Rattle.copy_transfer.proofs.Entries.{hears_next, hears_older, hears_other, next_of}
use Rattle.copy_transfer.proofs.sync.hear_entry.Goals as goal

pub returns-in-Some : goal.returns-in-Some
returns-in-Some g c = λ last there place.
    let own = own_of c.args.side.now c.args.store.now in
    let entry = entry_of c.args.entry.now in
    let is : last.index ≡ entry.index = omega (arith, place, c.if-place-index-2.false) in
    let moved = next_of entry.index c.in-Some.next last _
    (sym c.in-Some.is ∙ c.in_ok-next.ensures
    ∙ ap (λ (cell : Cell). option_map (put_at entry.index) (at cell_cmp c.args.side.now.copies.last cell)) c.cell.ensures)
    there is in
    let older : nat_lt entry.index last.index ≡ false = grind (arith, nat_tests, place, c.if-place-index.false) in
    let same : (entry.index == last.index) ≡ true = grind (arith, nat_tests, is) in
    rw (← (hears_next own entry c.args.holder last c.in-Some.next moved older same)) c.take_entry.ensures

pub returns-then-place-index : goal.returns-then-place-index
returns-then-place-index g c = λ last _ place.
    let own = own_of c.args.side.now c.args.store.now in
    let entry = entry_of c.args.entry.now in
    let older : nat_lt entry.index last.index ≡ true = grind (arith, nat_tests, place, c.if-place-index.true) in
    let law = g.met.D.Disk g.world.𝓛 g.world.𝓜 g.world.𝓡 ((λ s x. x), (λ x. x), (λ x. x), λ x. x) in
    rw (← (hears_older own entry c.args.holder last older))
    (said_done g.D.Disk law.stays law.only_now c.args.here.now _ _ _ _ c.say_synced.result _ c.say_synced.ensures)

pub returns-then-place-index-2 : goal.returns-then-place-index-2
returns-then-place-index-2 g c = λ last _ place.
    let own = own_of c.args.side.now c.args.store.now in
    let entry = entry_of c.args.entry.now in
    let older : nat_lt entry.index last.index ≡ false = grind (arith, nat_tests, place, c.if-place-index.false) in
    let other : (entry.index == last.index) ≡ false = grind (arith, nat_tests, place, c.if-place-index-2.true) in
    let law = g.met.D.Disk g.world.𝓛 g.world.𝓜 g.world.𝓡 ((λ s x. x), (λ x. x), (λ x. x), λ x. x) in
    rw (← (hears_other own entry c.args.holder last older other))
    (said_done g.D.Disk law.stays law.only_now c.args.here.now _ _ _ _ c.silent.result _ c.silent.ensures)

pub returns-in_err-next : goal.returns-in_err-next
returns-in_err-next g c = λ last _ _.
    let here = c.args.here.now in
    let side = c.args.side.now in
    let store = c.args.store.now in
    let law = g.met.D.Disk g.world.𝓛 g.world.𝓜 g.world.𝓡 ((λ s x. x), (λ x. x), (λ x. x), λ x. x) in
    let error = err_from_is_err_and c.from_residual.result c.from_residual.ensures.1 in
    rw (error.1, error.2) (said_done g.D.Disk law.stays law.only_now here side side store store (Err NoMemory) _ (all_same here side side store store _ refl refl))
