-- A client is told of another revision in one place alone: where its letter has one.
use Rattle.law_answers.proofs.Imports.{◌∙◌, ◌∷◌, ◌≡◌, Actor, Follows, In, Job, Letter, List, MayActor, Record, Rests, Run, Server, Setting, Step, World}
use Rattle.law_answers.proofs.Imports.{after, ap, at_moment, by_test, follows_in, here_of, inl, log_rev, refl, rests_in, server_state, setting_in, shown}
use Rattle.law_answers.proofs.Imports.{start, step, stepped, subst, sym, true_false, was_sent, ℕ}
use Rattle.law_answers.specs.Revisions.{IsOtherRev, HasReason}
use Rattle.law_answers.proofs.LettersMuteOfRevisions.{IsMute, is_mute}
use Rattle.law_answers.proofs.WhatLettersSay.{Mute, Rev, Sight, TellsRev, server_says, client_says}
use Rattle.petal_msg.specs.declared.body.Body.TheVariants as body
use Rattle.petal_msg.specs.declared.letter.Actor.TheVariants as actor
use Rattle.spec_rules.specs.declared.job.Job.TheVariants as job

-- ### Steps

mute_not : (letter : Letter) (seq : ℕ) → letter.body ≡ body.WrongRev seq → IsMute letter.body → ⊥
mute_not letter seq e mute = true_false (ap (λ said. is_mute said) (sym e) ∙ mute) refl

shown_not : (line round : ℕ) (server : Server) (seq : ℕ) → shown line round server ≡ body.WrongRev seq → ⊥
shown_not line round server seq = by_test (λ said. said ≡ body.WrongRev seq → ⊥) server.life.running _ _ (λ t f. absurd (cc)) (λ t f. absurd (cc))

server_tells : (setting : Setting) (w : World) (n : ℕ) (what : Step) (stamp : ℕ) → MayActor (actor.Server n) what setting w → (letter : Letter) (seq : ℕ)
    → In letter (step (actor.Server n) what setting w stamp).letters → letter.body ≡ body.WrongRev seq
    → TellsRev (here_of (server_state setting w n) n (w.servers n)) (w.servers n).queue what letter seq
unfolding step
server_tells setting w n what stamp may letter seq h e = elim (server_says setting w n what stamp may.1 letter h) [
  | Mute mute ↦ absurd (mute_not letter seq e mute)
  | Rev other is told ↦
      let f : body.WrongRev other ≡ body.WrongRev seq = sym is ∙ e in
      let same : other ≡ seq = cc in
      subst (TellsRev (here_of (server_state setting w n) n (w.servers n)) (w.servers n).queue what letter) same told
  | Sight line round glance to mine is rev ↦ absurd (shown_not line round (w.servers n) seq (sym is ∙ e))
]

client_tells : (setting : Setting) (w : World) (c : ℕ) (what : Step) (stamp : ℕ) → MayActor (actor.Client c) what setting w → (letter : Letter) (seq : ℕ)
    → In letter (step (actor.Client c) what setting w stamp).letters → letter.body ≡ body.WrongRev seq → ⊥
unfolding step
client_tells setting w c what stamp may letter seq h e = mute_not letter seq e (client_says setting w c what stamp may.1 letter h)

first_in : (x : Job) (xs ys : List Job) → ys ≡ x ∷ xs → In x ys
unfolding In
first_in x xs ys e = subst (In x) (sym e) (inl refl)

step_tells : (setting : Setting) (w : World) (own : Record) → Rests setting w → Follows setting w own → (letter : Letter) (seq : ℕ)
    → In letter (stepped setting w own).letters
    → letter.body ≡ body.WrongRev seq → IsOtherRev setting w own letter seq
step_tells setting w own rests follows letter seq h e = by own.actor refl follows.may.may h
  where
    by : (who : Actor) → own.actor ≡ who → MayActor who own.step setting w → In letter (step who own.step setting w own.stamp).letters
        → IsOtherRev setting w own letter seq
    by (actor.Client c) is may i = absurd (client_tells setting w c own.step own.stamp may letter seq i e)
    by (actor.Server n) is may i =
        let t = server_tells setting w n own.step own.stamp may letter seq i e in
        let there : (w.servers n).queue ≡ job.Letter t.told.asked ∷ t.rest = t.next ∙ ap (λ j. j ∷ t.rest) t.told.job_is in
        let queued = rests.queues n t.told.asked (first_in (job.Letter t.told.asked) t.rest (w.servers n).queue there) in
        record {
          server = n;
          client = t.told.client;
          asked = t.told.asked;
          rest = t.rest;
          who = is;
          what = t.works;
          next = there;
          sent = queued.0;
          reached = queued.1;
          «from» = t.told.from_is;
          number = t.told.number;
          itself = t.told.itself;
          other = λ same. t.told.other (same ∙ sym (log_rev setting.servers (w.servers n).log.applied));
          told = t.to ∙ t.told.told;
        }

-- ### Histories

pub reason_after : (run : Run) (letter : Letter) (seq : ℕ) → In letter (after run).sent → letter.body ≡ body.WrongRev seq
    → HasReason (setting_in run) (start (setting_in run)) run.records letter seq
reason_after run letter seq h e =
    let was = was_sent run letter h in
    let it = at_moment run was.moment in
    let follows = follows_in it in
    record {
      moment = was.moment;
      sent = was.sent;
      so = step_tells (setting_in run) (after it.prior) it.own (rests_in it.prior) follows letter seq (subst (In letter) follows.sent was.sent) e;
    }
