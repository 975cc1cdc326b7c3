-- A step's letters are put before those that were sent.
use Rattle.std.proofs.Common.{ℕ}
use Rattle.petal_msg.specs.declared.letter.Actor.{Actor}
use Rattle.petal_msg.specs.declared.letter.Actor.TheVariants as actor
use Rattle.petal_msg.specs.declared.letter.Letter.{Letter}
use Rattle.spec_rules.specs.Lists.{In}
use Rattle.spec_rules.specs.World.{Setting, World, step}
use Rattle.spec_rules.specs.declared.step.Step.{Step}
use Rattle.spec_rules.proofs.ListLemmas.{in_former, in_later}
use Rattle.spec_rules.proofs.laws.letters_stay_sent.Goals as goal

stays : (who : Actor) (what : Step) (setting : Setting) (w : World) (stamp : ℕ) (letter : Letter) → In letter w.sent
    → In letter (step who what setting w stamp).world.sent
unfolding step
stays (actor.Server n) what setting w stamp letter h = in_later letter _ w.sent h
stays (actor.Client c) what setting w stamp letter h = in_later letter _ w.sent h

joins : (who : Actor) (what : Step) (setting : Setting) (w : World) (stamp : ℕ) (letter : Letter) → In letter (step who what setting w stamp).letters
    → In letter (step who what setting w stamp).world.sent
unfolding step
joins (actor.Server n) what setting w stamp letter h = in_former letter _ w.sent h
joins (actor.Client c) what setting w stamp letter h = in_former letter _ w.sent h

pub returns : goal.returns
returns c = record { stay = stays; join = joins }
