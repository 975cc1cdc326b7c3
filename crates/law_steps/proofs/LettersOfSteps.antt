-- Each letter of a step is of a job that a server did; else it is of the agreed log, of a glance, or a client's request.
use Rattle.law_steps.proofs.Imports.{◌==◌, ◌||◌, ◌∙◌, ◌≡◌, ◌≢◌, ◌⊎◌, Acted, Bool, Glanced, In, Job, JobResult, Letter, List, Log, Logged, Post, Read_asked}
use Rattle.law_steps.proofs.Imports.{Sender, Setting, State, Step, Subject, Work, World, Write_asked, ap, client_sender, down_posts, false, filter, in-append}
use Rattle.law_steps.proofs.Imports.{inl, inr, is_asked, is_logged, letters_of, not, put_apart, put_same, range_with_len, refl, said_to_all, sender, stamped}
use Rattle.law_steps.proofs.Imports.{subject_of, true, true_false, ℕ}
use Rattle.law_steps.specs.Did.{Did}
use Rattle.law_steps.specs.DidStep.{By_ballot, By_entry, By_job, Ends, Fails, Goes, Handled, Happens, IsIdle, IsSeatedOrMute, Blanks, Serves, Serving, Stays}
use Rattle.law_steps.specs.DidStep.{Turns, Wakes, own_place, served_so}
use Rattle.law_steps.proofs.ClientLetters.{is_ask, turned_asks}
use Rattle.law_steps.proofs.Letters.{Said, said}
use Rattle.petal_msg.specs.declared.body.Body.TheVariants as body
use Rattle.spec_rules.specs.declared.step.WorkEnd.TheVariants as work_end

-- of the agreed log, or of a glance
abbrev pub is_notice : Subject → Bool
is_notice Logged = true
is_notice Glanced = true
is_notice _ = false

-- or a client's request
abbrev pub is_aside : Subject → Bool
is_aside Logged = true
is_aside Glanced = true
is_aside Read_asked = true
is_aside Write_asked = true
is_aside _ = false

pub logged_notice : (subject : Subject) → is_logged subject ≡ true → is_notice subject ≡ true
logged_notice Logged e = refl
logged_notice _ e = true_false e refl

pub notice_aside : (subject : Subject) → is_notice subject ≡ true → is_aside subject ≡ true
notice_aside Logged e = refl
notice_aside Glanced e = refl
notice_aside _ e = true_false e refl

pub asked_aside : (subject : Subject) → (is_asked subject || is_logged subject) ≡ true → is_aside subject ≡ true
asked_aside Logged e = refl
asked_aside Read_asked e = refl
asked_aside Write_asked e = refl
asked_aside _ e = true_false e refl

-- the letter is one of a job that the server did, or of a tick
pub record IsOfJob (setting : Setting) (w : World) (n stamp : ℕ) (what : Step) (acted : Acted) (letter : Letter) : Type 0 where
  pub log : Log
  pub done : JobResult
  pub queue : List Job
  pub acted_is : acted ≡ served_so setting w n log done queue
  pub runs : (w.servers n).life.running ≡ true
  pub same : log.applied ≡ (w.servers n).log.applied
  pub did : Did (Handled w n) (own_place setting w n) (w.servers n).own done
  pub seat : IsSeatedOrMute (own_place setting w n) (w.servers n).own done
  pub works : (what ≡ Work work_end.Done) ⊎ IsIdle (own_place setting w n) (w.servers n).own done
  pub sent : Said (sender (own_place setting w n)) stamp done.posts letter
  pub open sent use {post, there, to, body, rev}

module _ (setting : Setting) (w : World) (n stamp : ℕ) (what : Step) where
  abbrev S : Acted → Letter → Type 0
  S acted letter = IsOfJob setting w n stamp what acted letter ⊎ (is_notice (subject_of letter.body) ≡ true)

  notice : (acted : Acted) (who : Sender) (posts : List Post) → ((post : Post) → In post posts → is_notice (subject_of post.body) ≡ true)
      → (letter : Letter) → In letter (stamped stamp (letters_of who 0 posts)) → S acted letter
  notice acted who posts all letter h =
      let s = said who stamp 0 posts letter h in inr (ap (λ b. is_notice (subject_of b)) s.body ∙ all s.post s.there)

  -- who stops, or boots, speaks of that alone
  downs : (servers : ℕ) (post : Post) → In post (down_posts n (w.servers n).life.inc servers) → is_notice (subject_of post.body) ≡ true
  downs servers post i = ap (λ b. is_notice (subject_of b))
      (said_to_all (body.Down n (w.servers n).life.inc) (filter (λ k. not (k == n)) (range_with_len 0 servers)) post i)

  pub serves_sent : (acted : Acted) → Serving setting w n what acted → (letter : Letter) → In letter (stamped stamp acted.letters) → S acted letter
  unfolding In
  serves_sent _ (Goes _ _ queue runs (By_job log done same did seat) queued works) letter h =
      inl (record {
        log = log;
        done = done;
        queue = queue;
        acted_is = refl;
        runs = runs;
        same = same;
        did = did;
        seat = seat;
        works = works;
        sent = said (sender (own_place setting w n)) stamp 0 done.posts letter h;
      })
  serves_sent acted (Goes _ _ queue runs (By_ballot log started posts same starts logged) queued works) letter h =
      notice acted _ posts (λ post i. logged_notice (subject_of post.body) (logged post i)) letter h
  serves_sent _ (Goes _ _ queue runs (By_entry log entry more prefix) queued works) letter h = absurd h
  serves_sent acted (Ends log done runs worked) letter h = notice acted _ _ (downs _) letter h
  serves_sent acted (Stays who posts from shown) letter h = notice acted who posts (λ post i. ap is_notice (shown post i)) letter h
  serves_sent acted (Wakes booted asleep) letter h = notice acted _ _ (downs _) letter h
  serves_sent _ (Fails booted asleep) letter h = absurd h

-- a letter was sent before the step, or in it
pub data IsSentBy (setting : Setting) (w v : World) (letter : Letter) : Type 0 where
  Was_sent : In letter w.sent → IsSentBy setting w v letter
  Of_job : (n stamp : ℕ) (what : Step) (acted : Acted) → IsOfJob setting w n stamp what acted letter → v.servers n ≡ acted.server
      → ((m : ℕ) → m ≢ n → v.servers m ≡ w.servers m) → IsSentBy setting w v letter
  Aside : is_aside (subject_of letter.body) ≡ true → IsSentBy setting w v letter

pub happens_sent : (setting : Setting) (state : State) (w v : World) → Happens setting state w v → (letter : Letter) → In letter v.sent
    → IsSentBy setting w v letter
happens_sent setting state w _ (Serves n stamp what acted lt small unblanked serving) letter i =
    elim (in-append letter (stamped stamp acted.letters) w.sent i) [
      | inl new ↦ elim (serves_sent setting w n stamp what acted serving letter new) [
        | inl job ↦ Of_job n stamp what acted job (put_same w.servers n acted.server) (put_apart w.servers n acted.server)
        | inr apart ↦ Aside (notice_aside (subject_of letter.body) apart)
      ]
      | inr old ↦ Was_sent old
    ]
happens_sent setting state w _ (Blanks n stamp lt small asleep) letter i = Was_sent i
happens_sent setting state w _ (Turns c stamp in_call reacted lt small turned onward) letter i =
    elim (in-append letter (stamped stamp (letters_of (client_sender c reacted.client) 0 reacted.posts)) w.sent i) [
      | inl new ↦ (
          let s = said (client_sender c reacted.client) stamp 0 reacted.posts letter new in
          Aside (asked_aside (subject_of letter.body) (ap is_ask s.body ∙ turned_asks _ _ _ _ _ _ _ turned s.post s.there)))
      | inr old ↦ Was_sent old
    ]
