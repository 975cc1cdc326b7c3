use Rattle.std.proofs.Common.{◌≡◌, true, List, ℕ, sym, subst, ◌∙◌}
use Rattle.std.proofs.lemmas.List.Elements.{All-append}
use Rattle.petal_base.specs.Tuple.{is_tuple}
use Rattle.link_table.specs.Numbers.{IsNumbered}
use Rattle.link_table.proofs.Numbered.{as_numbered, new_numbered}
use Rattle.link_table.proofs.Links.add_map.Goals as goal

pub invariant_of-self-2 : goal.invariant_of-self-2
invariant_of-self-2 c =
    let tuple = subst (λ (ids : List ℕ). is_tuple 8 ids ≡ true) (sym c.ids.ensures.value) c.ids.ensures.tuple in
    let made = new_numbered c.args.map c.ids.result.now c.args.up.now tuple in
    as_numbered _ _ c.in_ok-extend_from_slice.ensures.items
    (All-append IsNumbered _ _ c.self.invariant (as_numbered _ _ (c.deref.ensures.value ∙ c.in_ok-rows.ensures) made))
