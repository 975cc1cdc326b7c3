-- The open line starts the server, or none does.
use Rattle.spec_rules.proofs.Tests.{true_false}
use Rattle.petal_world.proofs.Allowed.{hindered}
use Rattle.petal_world.proofs.actors.Actors.has_started.Goals as goal

pub returns-then-not-is_given_by : goal.returns-then-not-is_given_by
returns-then-not-is_given_by g c = λ setting w h is. hindered (λ done. true_false ((c.is_given_by.ensures setting w h).1 done.by) c.if-not-is_given_by.true)
