-- What a record of a list of steps has sent was sent.
use Rattle.law_merge.proofs.Imports.{[], ◌∷◌, Actor, AreStepsFrom, In, Letter, List, Record, Setting, Step, World, in_former, in_later, inl, inr, step}
use Rattle.law_merge.proofs.Imports.{stepped, subst, world_after, ℕ}
use Rattle.petal_msg.specs.declared.letter.Actor.TheVariants as actor

module _ (setting : Setting) where
  stays : (who : Actor) (what : Step) (w : World) (stamp : ℕ) (letter : Letter) → In letter w.sent → In letter (step who what setting w stamp).world.sent
  unfolding step
  stays (actor.Server n) what w stamp letter i = in_later letter _ w.sent i
  stays (actor.Client c) what w stamp letter i = in_later letter _ w.sent i

  stays_all : (w : World) (records : List Record) (letter : Letter) → In letter w.sent → In letter (world_after setting w records).sent
  stays_all w [] letter i = i
  stays_all w (own ∷ later) letter i = stays_all (stepped setting w own).world later letter (stays own.actor own.step w own.stamp letter i)

  joins : (who : Actor) (what : Step) (w : World) (stamp : ℕ) (letter : Letter) → In letter (step who what setting w stamp).letters
      → In letter (step who what setting w stamp).world.sent
  unfolding step
  joins (actor.Server n) what w stamp letter i = in_former letter _ w.sent i
  joins (actor.Client c) what w stamp letter i = in_former letter _ w.sent i

  pub sent_by : (w : World) (records : List Record) → AreStepsFrom setting w records → (own : Record) → In own records → (letter : Letter)
      → In letter own.sent → In letter (world_after setting w records).sent
  unfolding In
  sent_by w [] legal own there letter i = absurd there
  sent_by w (first ∷ later) legal own (inl e) letter i =
      stays_all (stepped setting w first).world later letter
      (joins first.actor first.step w first.stamp letter (subst (In letter) legal.0.sent (subst (λ (r : Record). In letter r.sent) e i)))
  sent_by w (first ∷ later) legal own (inr there) letter i = sent_by (stepped setting w first).world later legal.1 own there letter i
