use Rattle.std.proofs.Common.{refl}
use Rattle.busy_marks.proofs.Orders.{order_is}
use Rattle.busy_marks.proofs.Searches.{first_by}
use Rattle.busy_marks.proofs.marks.Marks.first_in.Goals as goal

pub returns-clause-first : goal.returns-clause-first
returns-clause-first c =
    rw (← c.self.view_is) (first_by _ c.args.start c.self.inside.marks.items c.first_from.result c.first_from.ensures.sorted
    (order_is _ (λ x y. refl) (λ x y. refl) (λ x y. refl) (λ x y. refl)) c.first_from.ensures.found)
