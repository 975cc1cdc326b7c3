-- The open line is this one, or none is.
use Rattle.std.proofs.Common.{Some, refl, ap, ◌∙◌}
use Rattle.std.specs.Prelude.{◌==◌}
use Rattle.spec_rules.proofs.Tests.{none_some, number_itself, same_numbers, same_some}
use Rattle.petal_world.proofs.Allowed.{hindered}
use Rattle.petal_world.proofs.actors.Actors.is_given_by.Goals as goal

pub returns-in-None : goal.returns-in-None
returns-in-None g c = λ setting w h. hindered (λ by. none_some refl ((c.in-None.ensures setting w c.args.line h).1 by))

pub returns-in-Some : goal.returns-in-Some
returns-in-Some g c = λ setting w h.
    let gives = c.in-Some.ensures setting w c.args.line h in (
      (λ same. gives.0 (ap (λ k. Some k) (same_numbers c.in-Some.own c.args.line same))),
      (λ by. ap (λ k. k == c.args.line) (same_some (gives.1 by)) ∙ number_itself c.args.line),
    )
