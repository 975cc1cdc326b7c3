-- The open line blanks the server, as its first step or after its stop.
use Rattle.spec_rules.proofs.Tests.{true_false}
use Rattle.petal_world.proofs.Allowed.{hindered}
use Rattle.petal_world.proofs.Lines.{blanked_by}
use Rattle.petal_world.proofs.actors.Actors.may_blank.Goals as goal

pub returns-then-not-is_given : goal.returns-then-not-is_given
returns-then-not-is_given g c = λ setting w h is.
    hindered (λ may. true_false ((c.is_given.ensures setting w h).1 (blanked_by w c.args.server may)) c.if-not-is_given.true)
