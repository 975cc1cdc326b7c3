-- Each letter was sent by one of a run's records, and what was sent stays so; so it is of answers.
use Rattle.law_jobs.proofs.Imports.{[], ◌++◌, ◌∙◌, ◌∷◌, ◌≡◌, Actor, In, IsMoment, Letter, List, Record, Setting, Step, World, ap, append_assoc, in-append}
use Rattle.law_jobs.proofs.Imports.{in_former, in_later, inl, inr, last_moment, moment_more, refl, step, subst, sym, with_answer, ℕ}
use Rattle.law_jobs.proofs.Runs.{At, OneMore, Run, after, at_moment, by_run, follows_in, longer, setting_in, since, stepped_in}
use Rattle.petal_msg.specs.declared.letter.Actor.TheVariants as actor

-- one of the records sent the letter
pub record WasSent (records : List Record) (letter : Letter) : Type 0 where
  pub moment : IsMoment records
  pub open moment use *
  pub sent : In letter own.sent

step_sent : (who : Actor) (what : Step) (setting : Setting) (w : World) (stamp : ℕ)
    → (step who what setting w stamp).world.sent ≡ (step who what setting w stamp).letters ++ w.sent
unfolding step
step_sent (actor.Server n) what setting w stamp = refl
step_sent (actor.Client c) what setting w stamp = refl

step_answers : (who : Actor) (what : Step) (setting : Setting) (w : World) (stamp : ℕ)
    → (step who what setting w stamp).world.answers ≡ with_answer (step who what setting w stamp).answer w.answers
unfolding step
step_answers (actor.Server n) what setting w stamp = refl
step_answers (actor.Client c) what setting w stamp = refl

module _ (it : OneMore) where
  abbrev w : World
  w = after it.prior

  pub sent_in : (after (longer it)).sent ≡ it.own.sent ++ w.sent
  sent_in =
      ap (λ (v : World). v.sent) (stepped_in it) ∙ step_sent it.own.actor it.own.step (setting_in it.prior) w it.own.stamp
      ∙ ap (λ letters. letters ++ w.sent) (sym (follows_in it).sent)

  pub answers_in : (after (longer it)).answers ≡ with_answer it.own.answer w.answers
  answers_in =
      ap (λ (v : World). v.answers) (stepped_in it) ∙ step_answers it.own.actor it.own.step (setting_in it.prior) w it.own.stamp
      ∙ ap (λ answer. with_answer answer w.answers) (sym (follows_in it).answer)

  pub still_sent : (letter : Letter) → In letter w.sent → In letter (after (longer it)).sent
  still_sent letter i = subst (In letter) (sym sent_in) (in_later letter it.own.sent w.sent i)

pub was_sent : (run : Run) (letter : Letter) → In letter (after run).sent → WasSent run.records letter
unfolding In
was_sent =
    by_run (λ run. (letter : Letter) → In letter (after run).sent → WasSent run.records letter) (λ script sound legal letter i. absurd i) (λ it old letter i.
    elim (in-append letter it.own.sent (after it.prior).sent (subst (In letter) (sent_in it) i)) [
      | inl new ↦ record { moment = last_moment it.prior.records it.own; sent = new }
      | inr before ↦ (let was = old letter before in record { moment = moment_more it.prior.records it.own was.moment; sent = was.sent })
    ])

pub stays_sent : (run : Run) (prefix later : List Record) → run.records ≡ prefix ++ later → (letter : Letter) → In letter (At run.script prefix).sent
    → In letter (after run).sent
stays_sent run prefix later is letter i =
    since (λ run. In letter (after run).sent) (λ it old. still_sent it letter old) run prefix later is (λ legal. i)

-- what a record sent stays sent
pub sent_since : (run : Run) (m : IsMoment run.records) (letter : Letter) → In letter m.own.sent → In letter (after run).sent
sent_since run m letter i =
    let it = at_moment run m in
    stays_sent run (longer it).records m.following (m.is ∙ sym (append_assoc m.prefix (m.own ∷ []) m.following)) letter
    (subst (In letter) (sym (sent_in it)) (in_former letter m.own.sent (after it.prior).sent i))
