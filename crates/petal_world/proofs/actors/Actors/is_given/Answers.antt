-- The open line gives the server this order, or none does.
use Rattle.std.proofs.Common.{refl}
use Rattle.spec_rules.proofs.Tests.{none_some}
use Rattle.petal_world.proofs.Allowed.{hindered}
use Rattle.petal_world.proofs.actors.Actors.is_given.Goals as goal

pub returns-in-None : goal.returns-in-None
returns-in-None g c = λ setting w h. hindered (λ by. none_some refl ((c.in-None.ensures setting w by.0 h).1 by.1))

pub returns-in-Some : goal.returns-in-Some
returns-in-Some g c = λ setting w h. ((λ t. (c.in-Some._line, (c.in-Some.ensures setting w c.in-Some._line h).0 refl)), (λ by. refl))
