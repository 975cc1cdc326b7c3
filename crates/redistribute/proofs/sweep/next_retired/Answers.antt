use Rattle.std.proofs.Common.{sym, ap, subst, ◌∙◌, List}
use Rattle.physical_map.specs.declared.entry.Entry.{Entry}
use Rattle.physical_map.specs.Entries.{key_of}
use Rattle.physical_map.specs.Keys.{IsInOrder}
use Rattle.spec_rules.specs.Sweeping.{retired_mark}
use Rattle.redistribute.specs.Swept.{first_retired}
use Rattle.redistribute.proofs.Retired.{retired_found}
use Rattle.redistribute.proofs.FirstRetired.{retired_by}
use Rattle.redistribute.proofs.Rests.{order_listed}
use Rattle.redistribute.proofs.sweep.next_retired.Goals as goal

pub retired_entry-requires : goal.retired_entry-requires
retired_entry-requires g c =
    subst (λ (es : List Entry). IsInOrder key_of es) (sym c.entries.ensures) (order_listed c.args.store.now.entries c.free.ensures.order)

pub returns-in-Some : goal.returns-in-Some
returns-in-Some g c =
    let state = c.args.state.now in
    let s = c.args.store.now in
    let found = ap (λ (es : List Entry). first_retired state es) (sym c.entries.ensures) ∙ sym c.retired_entry.ensures ∙ c.in-Some.is in
    sym (retired_found state s c.free.ensures.order ∙ ap (retired_by state (retired_mark state s.marks)) found)

pub returns-in-None : goal.returns-in-None
returns-in-None g c =
    let state = c.args.state.now in
    let s = c.args.store.now in
    let found = ap (λ (es : List Entry). first_retired state es) (sym c.entries.ensures) ∙ sym c.retired_entry.ensures ∙ c.in-None.is in
    sym (retired_found state s c.free.ensures.order ∙ ap (retired_by state (retired_mark state s.marks)) found
    ∙ sym c.retired_mark.ensures)
