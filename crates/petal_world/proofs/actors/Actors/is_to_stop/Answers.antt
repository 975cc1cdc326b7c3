-- The open line stops the server, or blanks it, or none does.
use Rattle.std.proofs.Common.{inl, inr, refl}
use Rattle.spec_rules.proofs.Tests.{true_false}
use Rattle.petal_world.proofs.actors.Actors.is_to_stop.Goals as goal

pub returns-then-is_given : goal.returns-then-is_given
returns-then-is_given g c = λ setting w h. ((λ t. inl ((c.is_given.ensures setting w h).0 c.if-is_given.true)), (λ by. refl))

pub returns : goal.returns
returns g c = λ setting w h. (
  (λ t. inr ((c.is_given-2.ensures setting w h).0 t)),
  (λ by. elim by [
    | inl stops ↦ true_false ((c.is_given.ensures setting w h).1 stops) c.if-is_given.false
    | inr blanks ↦ (c.is_given-2.ensures setting w h).1 blanks
  ]),
)
