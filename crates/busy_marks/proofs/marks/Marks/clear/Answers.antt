use Rattle.std.proofs.Common.{refl}
use Rattle.busy_marks.specs.declared.marks.Mark.{Mark}
use Rattle.busy_marks.proofs.Orders.{order_is}
use Rattle.busy_marks.proofs.Searches.{taken_by}
use Rattle.busy_marks.proofs.marks.Marks.clear.Goals as goal

pub returns-clause-marks : goal.returns-clause-marks
returns-clause-marks c =
    let mark : Mark = record { cell = c.args.cell; kind = c.args.kind } in
    rw (← c.self.view_is) (taken_by _ mark c.self.inside.marks.items c.take_out.new.self.items c.take_out.ensures.sorted
    (order_is _ (λ x y. refl) (λ x y. refl) (λ x y. refl) (λ x y. refl)) c.self.invariant c.take_out.ensures.items)
