use Rattle.std.proofs.Common.{◌≡◌, sym, ap, ◌∙◌}
use Rattle.std.specs.Prelude.{find}
use Rattle.std.specs.Option.{option_copied}
use Rattle.petal_msg.specs.declared.copying.LastCopy.{LastCopy}
use Rattle.petal_table.specs.Table.{at}
use Rattle.spec_rules.specs.Store.{cell_cmp}
use Rattle.pair_memory.specs.PairMemory.{PairMemory, own_of}
use Rattle.copy_transfer.proofs.Trims.{again_none, again_some, is_beyond, one_copy, own_epochs}
use Rattle.copy_transfer.proofs.follow.trim_again.Goals as goal

pub returns-in-None : goal.returns-in-None
returns-in-None g c = λ last there.
    let own = own_of c.args.side.now c.args.store.now in
    let found = ap (λ (s : PairMemory). at cell_cmp s.copies.last c.args.cell) (sym c.side.view_is) ∙ sym c.last_copy.ensures ∙ ap option_copied c.in-Some.is in
    let same : c.in-Some.last.now ≡ last = one_copy c.in-Some.last.now last (sym found ∙ there) in
    let is = ap (λ (l : LastCopy). find (is_beyond l.epochs) (own_epochs own c.args.cell)) (sym same) ∙ sym c.in_ok-beyond.ensures ∙ c.in-None.is in
    rw (← (again_none own c.args.cell last.epochs c.args.op c.args.holder is)) c.say_to.ensures

pub returns-in-Some-2 : goal.returns-in-Some-2
returns-in-Some-2 g c = λ last there.
    let own = own_of c.args.side.now c.args.store.now in
    let found = ap (λ (s : PairMemory). at cell_cmp s.copies.last c.args.cell) (sym c.side.view_is) ∙ sym c.last_copy.ensures ∙ ap option_copied c.in-Some.is in
    let same : c.in-Some.last.now ≡ last = one_copy c.in-Some.last.now last (sym found ∙ there) in
    let is = ap (λ (l : LastCopy). find (is_beyond l.epochs) (own_epochs own c.args.cell)) (sym same) ∙ sym c.in_ok-beyond.ensures ∙ c.in-Some-2.is in
    rw (← (again_some own c.args.cell last.epochs c.args.op c.args.holder _ is)) c.silent-in-Some-2.ensures
