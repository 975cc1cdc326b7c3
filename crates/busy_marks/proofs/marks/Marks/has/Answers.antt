use Rattle.std.proofs.Common.{◌∙◌, ap, refl}
use Rattle.std.specs.Option.{is_some}
use Rattle.busy_marks.specs.declared.marks.Mark.{Mark}
use Rattle.busy_marks.proofs.Orders.{order_is}
use Rattle.busy_marks.proofs.Searches.{has_by}
use Rattle.busy_marks.proofs.marks.Marks.has.Goals as goal

pub returns : goal.returns
returns c =
    let mark : Mark = record { cell = c.args.cell; kind = c.args.kind } in
    rw (← c.self.view_is) (c.is_some.ensures ∙ ap is_some c.get.ensures.found
    ∙ has_by _ mark c.self.inside.marks.items c.get.ensures.sorted (order_is _ (λ x y. refl) (λ x y. refl) (λ x y. refl) (λ x y. refl)))
