-- What letters say of two matters: a client is told of another revision in one place alone, where its letter has one; and of whether a
-- server runs at a glance alone.
use Rattle.law_answers.proofs.Imports.{[], if◌then◌else◌, ◌∙◌, ◌∷◌, ◌≡◌, A_read, A_write, Acted, After, Arm, Asked, Before, Begins, Blank, Body, Bool, Boot}
use Rattle.law_answers.proofs.Imports.{Call, Client, Command, CommitEnd, Deliver, Ends, Glance, Goes_on, In, Is_told, Job, JobContext, Judges, Letter, Line}
use Rattle.law_answers.proofs.Imports.{List, LogDone, LogFrame, MayClient, MayServer, None, Of_the_log, Option, Post, Reaction, Reads, Says, Sender, Server}
use Rattle.law_answers.proofs.Imports.{Setting, Shown, Some, State, Step, Stop, StopIn, Tick, Turned, Work, WorkEnd, World, ap, applied_entry, applied_none}
use Rattle.law_answers.proofs.Imports.{applies, awake, boots, by_test, client_sender, client_state, client_step, client_turns, does, down_posts, entered}
use Rattle.law_answers.proofs.Imports.{faults, first, glance_sender, glances, has_full_log, here_of, inl, inr, is_log_job, is_overfull, job_done, known}
use Rattle.law_answers.proofs.Imports.{letter_frame_of, letters_of, map, next_line, next_place, one_post, operator, post_of, raised, refl, rev_of, said_in}
use Rattle.law_answers.proofs.Imports.{sender, server_state, server_step, servers_of, shown, stamped, start_frame_of, starts, stays, stops, subst, sym}
use Rattle.law_answers.proofs.Imports.{tick_posts, true, voter_of, wakes, wanted_by, worked, works, ℕ}
use Rattle.law_answers.proofs.LettersMuteOfRevisions.{IsMute, AreMute, none_mute, logged_mute}
use Rattle.law_answers.proofs.JobSayings.{tick_mute, IsTold, Mute_post, Rev_post, job_tells}
use Rattle.petal_msg.specs.declared.body.Body.TheVariants as body
use Rattle.petal_msg.specs.declared.letter.Actor.TheVariants as actor
use Rattle.spec_rules.specs.declared.job.Job.TheVariants as job
use Rattle.spec_rules.specs.declared.step.WorkEnd.TheVariants as work_end

-- ### Clients

says_mute : (state : State) (c : ℕ) (open_now : Option Asked) (post : Post) → Says state c open_now post → IsMute post.body
says_mute state c open_now _ (Of_the_log post is) = logged_mute post.body is
says_mute state c open_now _ (A_write asked name block pattern disk to now is there rev) = refl
says_mute state c open_now _ (A_read asked name snap block disk epoch to now is there at rev) = refl

pub client_mute : (heard : ℕ → Body → Type 0) (servers : ℕ) (lines : List Line) (c : ℕ) (client : Client) (in_call : Bool) (reacted : Reaction)
    → Turned heard servers lines c client in_call reacted → AreMute reacted.posts
client_mute heard servers lines c client _ _ (Goes_on reacted seq stays says) post h = says_mute _ c reacted.client.asked post (says.says post h)
client_mute heard servers lines c client _ _ (Is_told reacted asked told is reads seq stays says) post h =
    says_mute _ c reacted.client.asked post (says.says post h)
client_mute heard servers lines c client _ _ (Begins reacted line asked next free seq now called says) post h = says_mute _ c reacted.client.asked post
    (says.says post h)
client_mute heard servers lines c client _ _ (Reads asked bytes told is read) post h = none_mute post h
client_mute heard servers lines c client _ _ (Ends asked how told is write) post h = none_mute post h
client_mute heard servers lines c client _ _ (Shown asked rev sight given told is seen) post h = none_mute post h
client_mute heard servers lines c client _ _ (Judges after asked told is gone seq judged) post h = none_mute post h

-- ### Servers

-- where a server's step tells a client of another revision
pub record TellsRev (here : JobContext) (queue : List Job) (what : Step) (letter : Letter) (seq : ℕ) : Type 0 where
  pub works : what ≡ Work work_end.Done
  pub first : Job
  pub rest : List Job
  pub next : queue ≡ first ∷ rest
  pub post : Post
  pub told : IsTold here first post seq
  pub to : letter.to ≡ post.to

-- what a letter of a server's step says: nothing of either, or of another revision, or what a glance showed
pub data StepSays (here : JobContext) (server : Server) (what : Step) (letter : Letter) : Type 0 where
  Mute : IsMute letter.body → StepSays here server what letter
  Rev : (seq : ℕ) → letter.body ≡ body.WrongRev seq → TellsRev here server.queue what letter seq → StepSays here server what letter
  Sight : (line round : ℕ) → what ≡ Glance line round → letter.to ≡ actor.Client operator → letter.from ≡ actor.Server here.me
      → letter.body ≡ shown line round server → (server.life.running ≡ true → letter.rev ≡ here.state.rev)
      → StepSays here server what letter

no_letter : {A : Type 0} (stamp : ℕ) (letter : Letter) → In letter (stamped stamp []) → A
unfolding In
no_letter stamp letter h = absurd h

downs_mute : (me inc : ℕ) (others : List ℕ) → AreMute (map (post_of (body.Down me inc)) others)
unfolding In
downs_mute me inc [] post h = absurd h
downs_mute me inc (n ∷ others) post (inl e) = subst IsMute (sym (ap (λ (p : Post). p.body) e)) refl
downs_mute me inc (n ∷ others) post (inr h) = downs_mute me inc others post h

-- of mute posts there are mute letters
sent_mute : (who : Sender) (stamp : ℕ) (posts : List Post) → AreMute posts → (letter : Letter) → In letter (stamped stamp (letters_of who 0 posts))
    → IsMute letter.body
sent_mute who stamp posts mute letter h = let s = said_in who stamp 0 posts letter h in subst IsMute (sym s.body) (mute s.post s.there)

-- what a server that stops tells the others
stops_mute : (here : JobContext) (server : Server) (stamp : ℕ) (letter : Letter) → In letter (stamped stamp (stops here server).letters) → IsMute letter.body
stops_mute here server stamp letter h =
    sent_mute (record { from = actor.Server here.me; inc = here.inc; rev = 0 }) stamp (down_posts here.me here.inc (servers_of here.state))
    (downs_mute here.me here.inc _) letter h

-- and one whose job met a device's fault
faults_mute : (here : JobContext) (server : Server) (end : CommitEnd) (stamp : ℕ) (letter : Letter)
    → In letter (stamped stamp (faults here server server.queue end).letters) → IsMute letter.body
faults_mute here server Before stamp letter h = stops_mute here server stamp letter h
faults_mute here server After stamp letter h = stops_mute here (works here server server.queue).server stamp letter h

-- and one that boots
boots_mute : (here : JobContext) (server : Server) (end : WorkEnd) (stamp : ℕ) (letter : Letter) → In letter (stamped stamp (boots here server end).letters)
    → IsMute letter.body
boots_mute here server work_end.Done stamp letter h =
    by_test (λ (a : Acted). In letter (stamped stamp a.letters) → IsMute letter.body) (has_full_log (raised server)) (stays server)
    (wakes here (awake (raised server)))
    (λ full i. no_letter stamp letter i)
    (λ room i. let up = awake (raised server) in
    sent_mute (record { from = actor.Server here.me; inc = up.life.inc; rev = rev_of up.log }) stamp
    (down_posts here.me here.inc (servers_of here.state)) (downs_mute here.me here.inc _) letter i) h
boots_mute here server (work_end.Fault Before) stamp letter h = no_letter stamp letter h
boots_mute here server (work_end.Fault After) stamp letter h = no_letter stamp letter h

glance_says : (here : JobContext) (line round : ℕ) (server : Server) (stamp : ℕ) (letter : Letter)
    → In letter (stamped stamp (glances here line round server).letters) → StepSays here server (Glance line round) letter
glance_says here line round server stamp letter h =
    let s = said_in (glance_sender here server) stamp 0 (record { to = actor.Client operator; body = shown line round server } ∷ []) letter h in
    let one = one_post (actor.Client operator) (shown line round server) s.post s.there in
    let mine : (glance_sender here server).from ≡ actor.Server here.me =
    by_test (λ (who : Sender). who.from ≡ actor.Server here.me) server.life.running _ _ (λ on. refl) (λ off. refl) in
    Sight line round refl (s.to ∙ one.0) (s.from ∙ mine) (s.body ∙ one.1)
    (λ on. s.rev ∙ ap (λ b. (if b then sender here else record { from = actor.Server here.me; inc = 0; rev = 0 }).rev) on)

module _ (here : JobContext) (server : Server) (stamp : ℕ) (letter : Letter) where
  abbrev Tells : List Job → Acted → Type 0
  Tells queue acted = server.queue ≡ queue → In letter (stamped stamp acted.letters) → StepSays here server (Work work_end.Done) letter

  entered_tells : (queue : List Job) (what : Job) (rest : List Job) (done : LogDone) → LogFrame server.log what done
      → Tells queue (entered here server rest done)
  entered_tells queue what rest done frame is i =
      Mute (sent_mute (sender here) stamp done.posts (λ post h. logged_mute post.body (frame.says post h)) letter i)

  pair_tells : (first : Job) (rest : List Job) → Tells (first ∷ rest) (worked here server rest (does here server.own first))
  pair_tells first rest is i =
      let s = said_in (sender here) stamp 0 (does here server.own first).posts letter i in
      elim (job_tells here server.own first s.post s.there) [
        | Mute_post mute ↦ Mute (subst IsMute (sym s.body) mute)
        | Rev_post seq e told ↦ Rev seq (s.body ∙ e) (record {
          works = refl;
          first = first;
          rest = rest;
          next = is;
          post = s.post;
          told = told;
          to = s.to;
        })
      ]

  applied_silent : (o : Option Command) → known server.log (next_place server.log) ≡ o → (applies server.log).posts ≡ []
  applied_silent None none = ap (λ (d : LogDone). d.posts) (applied_none server.log none)
  applied_silent (Some entry) is = (applied_entry server.log entry is).silent

  done_tells : (first : Job) (rest : List Job) → Tells (first ∷ rest) (job_done here server first rest)
  done_tells (job.Letter heard) rest =
      by_test (Tells (job.Letter heard ∷ rest)) (is_log_job (job.Letter heard)) _ _
      (λ t. entered_tells (job.Letter heard ∷ rest) (job.Letter heard) rest _ (letter_frame_of (voter_of here) server.log heard))
      (λ t. pair_tells (job.Letter heard) rest)
  done_tells job.Start rest =
      entered_tells (job.Start ∷ rest) job.Start rest (starts (voter_of here) server.log (wanted_by here server))
      (start_frame_of (voter_of here) server.log (wanted_by here server))
  done_tells job.Apply rest = λ is i.
      no_letter stamp letter
      (subst (λ posts. In letter (stamped stamp (letters_of (sender here) 0 posts))) (applied_silent (known server.log (next_place server.log)) refl) i)
  done_tells first rest = pair_tells first rest

  works_tells : (queue : List Job) → Tells queue (works here server queue)
  works_tells [] = λ is i. no_letter stamp letter i
  works_tells (first ∷ rest) =
      let acted = job_done here server first rest in
      by_test (Tells (first ∷ rest)) (is_overfull acted.server) (stops here server) acted
      (λ full is i. Mute (stops_mute here server stamp letter i)) (λ room. done_tells first rest)

pub server_says : (setting : Setting) (w : World) (n : ℕ) (what : Step) (stamp : ℕ) → MayServer what setting w n → (letter : Letter)
    → In letter (stamped stamp (server_step what (server_state setting w n) n (w.servers n)).letters)
    → StepSays (here_of (server_state setting w n) n (w.servers n)) (w.servers n) what letter
server_says setting w n (Call line) stamp may letter h = absurd may
server_says setting w n (Deliver other) stamp may letter h = no_letter stamp letter h
server_says setting w n Tick stamp may letter h =
    let here = here_of (server_state setting w n) n (w.servers n) in
    Mute (sent_mute (sender here) stamp (tick_posts here (w.servers n)) (tick_mute here (w.servers n)) letter h)
server_says setting w n (Work work_end.Done) stamp may letter h =
    works_tells (here_of (server_state setting w n) n (w.servers n)) (w.servers n) stamp letter (w.servers n).queue refl h
server_says setting w n (Work (work_end.Fault end)) stamp may letter h =
    Mute (faults_mute (here_of (server_state setting w n) n (w.servers n)) (w.servers n) end stamp letter h)
server_says setting w n (StopIn end) stamp may letter h =
    Mute (faults_mute (here_of (server_state setting w n) n (w.servers n)) (w.servers n) end stamp letter h)
server_says setting w n Stop stamp may letter h =
    Mute (stops_mute (here_of (server_state setting w n) n (w.servers n)) (w.servers n) stamp letter h)
server_says setting w n Blank stamp may letter h = no_letter stamp letter h
server_says setting w n (Boot end) stamp may letter h =
    Mute (boots_mute (here_of (server_state setting w n) n (w.servers n)) (w.servers n) end stamp letter h)
server_says setting w n (Arm which plan) stamp may letter h = no_letter stamp letter h
server_says setting w n (Glance line round) stamp may letter h =
    glance_says (here_of (server_state setting w n) n (w.servers n)) line round (w.servers n) stamp letter h

-- a client says nothing of either
pub client_says : (setting : Setting) (w : World) (c : ℕ) (what : Step) (stamp : ℕ) → MayClient what setting w c → (letter : Letter)
    → (let reacted = client_step what (client_state setting w c) c (w.clients c) (next_line setting.lines c (w.clients c)) in
    In letter (stamped stamp (letters_of (client_sender c reacted.client) 0 reacted.posts)) → IsMute letter.body)
client_says setting w c what stamp may letter h =
    let reacted = client_step what (client_state setting w c) c (w.clients c) (next_line setting.lines c (w.clients c)) in
    sent_mute (client_sender c reacted.client) stamp reacted.posts
    (client_mute _ setting.servers setting.lines c (w.clients c) _ reacted (client_turns setting w c what may).turned) letter h
