use Rattle.std.proofs.Common.{refl}
use Rattle.busy_marks.specs.contracts.marks.MarkOrd.TheImpl.{cmp-value}
use Rattle.busy_marks.specs.declared.marks.Mark.{Mark}
use Rattle.busy_marks.proofs.Orders.{order_is}
use Rattle.busy_marks.proofs.Searches.{room_by, set_by}
use Rattle.busy_marks.proofs.marks.Marks.set_reserved.Goals as goal

pub place-requires : goal.place-requires
place-requires c =
    let mark : Mark = record { cell = c.args.cell; kind = c.args.kind } in
    room_by cmp-value.it mark c.self.inside.marks.items c.self.inside.marks.spare
    (order_is _ (λ x y. refl) (λ x y. refl) (λ x y. refl) (λ x y. refl)) (rw (← c.self.view_is) at c.requires)

pub returns : goal.returns
returns c =
    let mark : Mark = record { cell = c.args.cell; kind = c.args.kind } in
    rw (← c.self.view_is) (set_by _ mark c.self.inside.marks.items c.place.new.self.items c.place.ensures.sorted
    (order_is _ (λ x y. refl) (λ x y. refl) (λ x y. refl) (λ x y. refl)) c.place.ensures.items)
