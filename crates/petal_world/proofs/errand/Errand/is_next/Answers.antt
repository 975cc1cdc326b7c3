-- The first of the steps that are left is this one, or another.
use Rattle.std.proofs.Common.{◌≡◌, Some, ap, ◌∙◌}
use Rattle.spec_history.specs.Controls.{Errand, due}
use Rattle.petal_world.specs.Errands.{first_step, given_of, steps_left}
use Rattle.petal_world.proofs.Errands.{is_next_by}
use Rattle.petal_world.proofs.errand.Errand.is_next.Goals as goal

pub returns-in-Some : goal.returns-in-Some
returns-in-Some c =
    let left : steps_left c.due.result ≡ due c.args.running c.args.self.now.left =
    c.due.ensures ∙ ap (λ (e : Errand). due c.args.running e.left) c.self.view_is in
    let first : Some (given_of c.in-Some.next) ≡ first_step (due c.args.running c.args.self.now.left) =
    c.in-Some.ensures ∙ ap first_step left in
    let so = is_next_by c.args.self.now c.args.server c.args.running (given_of c.args.deed) (given_of c.in-Some.next)
    (c.is_of.ensures.0 c.if-not-is_of.false) first in
    ((λ t. so.0 (c.is_same_deed.ensures.0 t)), (λ next. c.is_same_deed.ensures.1 (so.1 next)))
