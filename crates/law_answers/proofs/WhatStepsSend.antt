-- What a step sends: the letters of a job that a server did; and else what is of the agreed log, shows a glance, or asks for a read or a write.
use Rattle.law_answers.proofs.Imports.{◌∙◌, ◌≡◌, ◌⊎◌, Actor, Blank, Did, Firm, Handled, In, IsIdle, JobResult, Letter, MayActor, OneMore, Rests, Said}
use Rattle.law_answers.proofs.Imports.{Setting, Step, Work, World, after, ap, asked_aside, client_sender, client_state, client_step, client_turns, firm_in}
use Rattle.law_answers.proofs.Imports.{firm_then, follows_in, inl, inr, is_aside, is_ask, is_call, next_line, notice_aside, own_place, own_steady, refl}
use Rattle.law_answers.proofs.Imports.{rests_in, said, sender, server_serves, serves_sent, setting_in, step, subject_of, subst, true, turned_asks, ℕ}
use Rattle.petal_msg.specs.declared.letter.Actor.TheVariants as actor
use Rattle.spec_rules.specs.declared.step.WorkEnd.TheVariants as work_end

-- the letter is one of a job that the server did, or of a tick
pub record SentBy (setting : Setting) (w : World) (who : Actor) (what : Step) (letter : Letter) : Type 0 where
  pub server : ℕ
  pub is : who ≡ actor.Server server
  pub done : JobResult
  pub did : Did (Handled w server) (own_place setting w server) (w.servers server).own done
  pub works : (what ≡ Work work_end.Done) ⊎ IsIdle (own_place setting w server) (w.servers server).own done
  pub stamp : ℕ
  pub sent : Said (sender (own_place setting w server)) stamp done.posts letter
  pub open sent use {post, there, to, body}

step_sent : (setting : Setting) (w : World) → Firm setting w → Rests setting w → (who : Actor) (what : Step) (stamp : ℕ)
    → MayActor who what setting w → Firm setting (step who what setting w stamp).world → (letter : Letter)
    → In letter (step who what setting w stamp).letters → SentBy setting w who what letter ⊎ (is_aside (subject_of letter.body) ≡ true)
unfolding step In
step_sent setting w firm rests (actor.Server n) Blank stamp may later letter h = absurd h
step_sent setting w firm rests (actor.Server n) what stamp may later letter h =
    elim (serves_sent setting w n stamp what _ (server_serves setting w rests firm n (own_steady setting w firm n) stamp what refl may.1 later) letter h) [
      | inl job ↦ inl (record { server = n; is = refl; done = job.done; did = job.did; works = job.works; stamp = stamp; sent = job.sent })
      | inr apart ↦ inr (notice_aside (subject_of letter.body) apart)
    ]
step_sent setting w firm rests (actor.Client c) what stamp may later letter h =
    let reacted = client_step what (client_state setting w c) c (w.clients c) (next_line setting.lines c (w.clients c)) in
    let s = said (client_sender c reacted.client) stamp 0 reacted.posts letter h in
    inr (asked_aside (subject_of letter.body)
    (ap is_ask s.body ∙ turned_asks _ setting.servers setting.lines c (w.clients c) (is_call what) reacted
    (client_turns setting w c what may.1).turned s.post s.there))

-- the letter of a record is one of these
pub sent_by : (it : OneMore) (letter : Letter) → In letter it.own.sent
    → SentBy (setting_in it.prior) (after it.prior) it.own.actor it.own.step letter ⊎ (is_aside (subject_of letter.body) ≡ true)
sent_by it letter i =
    let follows = follows_in it in
    step_sent (setting_in it.prior) (after it.prior) (firm_in it.prior) (rests_in it.prior) it.own.actor it.own.step it.own.stamp follows.may.may
    (firm_then it) letter (subst (In letter) follows.sent i)
