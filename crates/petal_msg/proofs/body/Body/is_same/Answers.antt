use Rattle.std.proofs.Common.{◌∙◌, sym, ap}
use Rattle.petal_msg.specs.contracts.body.BodyPartialEq.TheImpl as bodies
use Rattle.petal_msg.specs.contracts.body.BodyEq.TheImpl.Laws as equal_bodies
use Rattle.petal_msg.proofs.Alike.{body_tells}
use Rattle.petal_msg.proofs.body.Body.is_same.Goals as goal

pub returns : goal.returns
returns c = (
  λ is. body_tells.same _ _ (sym c.eq.ensures ∙ is),
  λ is. c.eq.ensures ∙ ap (bodies.ghosts.eq c.args.self.now) (sym is) ∙ equal_bodies.lawful.laws.refl c.args.self.now,
)
