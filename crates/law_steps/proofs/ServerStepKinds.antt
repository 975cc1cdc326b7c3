-- Each step of a server is a job that the relation names, or idle; it ends in the server's stop, or leaves the server as it was.
use Rattle.law_steps.proofs.Imports.{[], ◌++◌, ◌∙◌, ◌∷◌, ◌≡◌, Acted, After, Arm, Before, Blank, Body, Bool, Boot, Call, Cell, Command, Deliver, Firm, Glance}
use Rattle.law_steps.proofs.Imports.{Glanced, In, IsPrefix, IsSteady, Job, JobResult, Letter, List, Log, LogDone, MayServer, None, Option, Pending, Post}
use Rattle.law_steps.proofs.Imports.{Sender, Server, Setting, Some, Step, Stop, StopIn, Tick, Work, WorkEnd, World, all_put, ap, applies, asks_next, boots}
use Rattle.law_steps.proofs.Imports.{by_test, chosen_by, chosen_log, crossed, crossing, does, entered, false, first_wanted, glance_sender, glances}
use Rattle.law_steps.proofs.Imports.{has_full_log, has_proposed, in-append, inl, inr, is_log_job, is_logged, is_overfull, job_done, known, letters_of}
use Rattle.law_steps.proofs.Imports.{link_jobs, log_does, log_rev, next_place, only, pending_on, proposed, put_at, put_same, raised, refl, rev_of, sender}
use Rattle.law_steps.proofs.Imports.{server_state, server_step, settled_by, silent, stage_jobs, stages_only, starts, stays, stops, subject_of, subst, sym}
use Rattle.law_steps.proofs.Imports.{tick_jobs, tick_only, tick_posts, true, true_false, voter_of, wanted_by, worked, works, ℕ}
use Rattle.spec_rules.specs.World.{acts}
use Rattle.law_steps.specs.Ready.{Rests}
use Rattle.law_steps.specs.Operations.{IsStaged}
use Rattle.law_steps.specs.DidLead.{Asks, Asks_for, Of_the_log}
use Rattle.law_steps.specs.Did.{Did, Ignores, By_lead}
use Rattle.law_steps.specs.DidStep.{IsIdle, IsSeatedOrMute, AreQueued, Starts, By_job, By_ballot, By_entry, Serving, Goes, Ends, Stays, Wakes, Fails}
use Rattle.law_steps.specs.DidStep.{served_so, stopped_so}
use Rattle.law_steps.proofs.KnownServer.{KnownServer, parts_of}
use Rattle.law_steps.proofs.Inversion.{IsHeard, did}
use Rattle.law_steps.proofs.LogJobs.{LogFrame, letter_frame_of, start_frame_of, applied_entry, applied_none}
use Rattle.law_steps.proofs.Subjects.{of_did}
use Rattle.law_steps.proofs.IdleServers.{same_letter, logged_apart, leaves_silent, seated_does}
use Rattle.petal_msg.specs.declared.letter.Actor.TheVariants as actor
use Rattle.spec_rules.specs.declared.job.Job.TheVariants as job
use Rattle.spec_rules.specs.declared.step.WorkEnd.TheVariants as work_end
use Rattle.law_steps.proofs.TicksAskAgain as ticks
use Rattle.law_steps.proofs.CaughtBallots as ballots

-- the step makes a stopped server's device blank
abbrev pub is_blank : Step → Bool
is_blank Blank = true
is_blank _ = false

-- where a server's records stay, what is chosen does
pub chosen_same : (setting : Setting) (w : World) (n stamp : ℕ) (what : Step) (acted : Acted) → acted.server.log.records ≡ (w.servers n).log.records
    → chosen_log setting (acts setting w n what stamp acted).world ≡ chosen_log setting w
chosen_same setting w n stamp what acted same =
    let each : (m : ℕ) → (put_at w.servers n acted.server m).log.records ≡ (w.servers m).log.records =
    all_put w.servers n acted.server (λ m (x : Server). x.log.records ≡ (w.servers m).log.records) (λ m. refl) same in
    ap (chosen_by setting.servers) (λ i m. each m i)

module _ (it : KnownServer) where
  open it use {setting, w, rests, firm, n, steady, stamp}
  open parts_of it use {here, server, own, log, hears_server}

  abbrev A : Post → Type 0
  A post = Asks here own post

  staged : (cell : Cell) (op : Pending) → pending_on own cell ≡ Some op → IsStaged here.state n (has_proposed here.state own) cell op
  staged = ticks.staged it

  tick_asks : (post : Post) → In post (tick_posts here server) → A post
  tick_asks = ticks.tick_asks it

  queue_delivered : (letter : Letter) → In letter w.sent → letter.to ≡ actor.Server n → AreQueued w n (server.queue ++ job.Letter letter ∷ [])
  unfolding In
  queue_delivered letter h own other i = elim (in-append (job.Letter other) server.queue (job.Letter letter ∷ []) i) [
    | inl old ↦ rests.queues n other old
    | inr new ↦ elim new [ inl e ↦ (subst (λ (l : Letter). In l w.sent × (l.to ≡ actor.Server n)) (sym (same_letter e)) (h, own)) | inr none ↦ absurd none ]
  ]

  heard_job : (what : Job) (rest : List Job) → server.queue ≡ what ∷ rest → (what' : Job) → what' ≡ what
      → IsHeard hears_server here own steady staged what'
  unfolding In
  heard_job what rest e (job.Letter letter) is =
      let known = rests.queues n letter (subst (λ (q : List Job). In (job.Letter letter) q) (sym e) (inl is)) in
      λ rev. record {
        letter = letter;
        rest = rest;
        next = e ∙ ap (λ (j : Job). j ∷ rest) (sym is);
        sent = known.0;
        own = known.1;
        at = rev ∙ log_rev setting.servers log.applied;
        is = refl;
      }
  heard_job what rest e _ is = tt

  -- what is left of the queue, with jobs that bring no letter but the one that was handled
  queue_left : (what : Job) (rest jobs : List Job) → server.queue ≡ what ∷ rest
      → ((letter : Letter) → In (job.Letter letter) jobs → what ≡ job.Letter letter) → AreQueued w n (rest ++ jobs)
  unfolding In
  queue_left what rest jobs e brings letter i = elim (in-append (job.Letter letter) rest jobs i) [
    | inl old ↦ rests.queues n letter (subst (λ (q : List Job). In (job.Letter letter) q) (sym e) (inr old))
    | inr new ↦ rests.queues n letter (subst (λ (q : List Job). In (job.Letter letter) q) (sym e) (inl (sym (brings letter new))))
  ]

  -- ### What a job leaves

  -- where there is room: what the relation names, or an entry is applied
  data IsWorked : Acted → Type 0 where
    A_job : (after : Log) (done : JobResult) (queue : List Job) → after.applied ≡ log.applied → Did hears_server here own done
        → IsSeatedOrMute here own done → AreQueued w n queue
        → IsWorked (served_so setting w n after done queue)
    A_ballot : (after : Log) (started : Option Command) (posts : List Post) (queue : List Job) → after.applied ≡ log.applied → Starts here own started
        → ((post : Post) → In post posts → is_logged (subject_of post.body) ≡ true) → AreQueued w n queue
        → IsWorked (served_so setting w n after (record { own = proposed here.state own started; posts = posts; jobs = [] }) queue)
    An_entry : (after : Log) (entry : Command) (queue : List Job) → after.applied ≡ log.applied ++ entry ∷ [] → after.records ≡ log.records
        → AreQueued w n queue
        → IsWorked (served_so setting w n after (silent (settled_by here entry (crossed here.state entry own))) queue)

  -- a job of the log
  entered_worked : (what : Job) (rest : List Job) → server.queue ≡ what ∷ rest → (done : LogDone) → LogFrame log what done
      → IsWorked (entered here server rest done)
  entered_worked what rest e done f =
      A_job done.log (record { own = own; posts = done.posts; jobs = [] }) (rest ++ done.jobs) f.same
      (By_lead _ (Asks_for done.posts (λ post i. Of_the_log post (f.says post i))))
      (inr (record { same = refl; mute = λ post i. logged_apart (subject_of post.body) (f.says post i) })) (queue_left what rest done.jobs e f.jobs)

  -- a job of the pairs
  worked_worked : (what : Job) (rest : List Job) → server.queue ≡ what ∷ rest → IsWorked (worked here server rest (does here own what))
  worked_worked what rest e =
      let d = did hears_server here own steady staged what (heard_job what rest e what refl) in
      A_job log (does here own what) (rest ++ (does here own what).jobs) refl d (seated_does here own what)
      (queue_left what rest (does here own what).jobs e (λ letter i. absurd ((of_did hears_server here own (does here own what) d).no_letters letter i)))

  queue_more : (queue jobs : List Job) → AreQueued w n queue → ((letter : Letter) → In (job.Letter letter) jobs → ⊥) → AreQueued w n (queue ++ jobs)
  queue_more queue jobs queued none letter i =
      elim (in-append (job.Letter letter) queue jobs i) [ inl old ↦ queued letter old | inr new ↦ absurd (none letter new) ]

  -- the job that applies the next entry
  applied_worked : (rest : List Job) → server.queue ≡ job.Apply ∷ rest → (o : Option Command) → known log (next_place log) ≡ o
      → IsWorked (crossing here server rest o (applies log))
  unfolding In
  applied_worked rest e None none =
      subst (λ done. IsWorked (crossing here server rest None done)) (sym (applied_none log none))
      (A_job log (silent own) (rest ++ [] ++ []) refl Ignores (inr (leaves_silent own))
      (queue_more (rest ++ []) [] (queue_left job.Apply rest [] e (λ letter i. absurd i)) (λ letter i. i)))
  applied_worked rest e (Some entry) is =
      let a = applied_entry log entry is in
      let stages = stage_jobs here.state entry own ++ link_jobs here.state entry n in
      subst (λ posts. IsWorked (record { server = (crossing here server rest (Some entry) (applies log)).server; letters = letters_of (sender here) 0 posts }))
      (sym a.silent)
      (An_entry (applies log).log entry (rest ++ (applies log).jobs ++ stages) a.more a.records
      (queue_more (rest ++ (applies log).jobs) stages
      (queue_left job.Apply rest (applies log).jobs e (λ letter i. absurd (a.no_letters letter i)))
      (λ letter i. stages_only here.state n (Some entry) own letter i)))

  job_worked : (what : Job) (rest : List Job) → server.queue ≡ what ∷ rest → IsWorked (job_done here server what rest)
  job_worked (job.Letter letter) rest e = by_test IsWorked (is_log_job (job.Letter letter)) _ _
      (λ t. entered_worked (job.Letter letter) rest e (log_does (voter_of here) log (job.Letter letter)) (letter_frame_of (voter_of here) log letter))
      (λ t. worked_worked (job.Letter letter) rest e)
  job_worked job.Apply rest e = applied_worked rest e (known log (next_place log)) refl
  job_worked job.Start rest e =
      let done = starts (voter_of here) log (wanted_by here server) in
      let f = start_frame_of (voter_of here) log (wanted_by here server) in
      let started = first_wanted log.phase (rev_of log) (wanted_by here server) in
      A_ballot done.log started done.posts (rest ++ done.jobs) f.same (ballots.starts_for_it it started refl) f.says
      (queue_left job.Start rest done.jobs e f.jobs)
  job_worked first rest e = worked_worked first rest e

  -- ### The step

  abbrev S : Step → Acted → Type 0
  S what acted = Serving setting w n what acted

  -- the world after it knows its log
  abbrev F : Step → Acted → Type 0
  F what acted = Firm setting (acts setting w n what stamp acted).world

  -- an entry that the server applied stood in what was chosen before
  prefix_known : (what : Step) (acted : Acted) → F what acted → acted.server.log.records ≡ log.records
      → IsPrefix acted.server.log.applied (chosen_log setting w)
  prefix_known what acted later same =
      subst (IsPrefix acted.server.log.applied) (chosen_same setting w n stamp what acted same)
      (subst (λ (x : Server). IsPrefix x.log.applied (chosen_log setting (acts setting w n what stamp acted).world)) (put_same w.servers n acted.server)
      (later.servers n))

  stops_serve : (what : Step) → server.life.running ≡ true → S what (stops here server)
  stops_serve what runs = Ends log (silent own) runs (By_job log (silent own) refl Ignores (inr (leaves_silent own)))

  -- the job is done, and its letters go
  goes_on : (acted : Acted) → server.life.running ≡ true → IsWorked acted → F (Work work_end.Done) acted → S (Work work_end.Done) acted
  goes_on _ runs (A_job after done queue same d seat queued) later = Goes after done queue runs (By_job after done same d seat) queued (inl refl)
  goes_on _ runs (A_ballot after started posts queue same starts says queued) later =
      Goes after _ queue runs (By_ballot after started posts same starts says) queued (inl refl)
  goes_on _ runs (An_entry after entry queue more same queued) later =
      let done = silent (settled_by here entry (crossed here.state entry own)) in
      Goes after done queue runs
      (By_entry after entry more (prefix_known (Work work_end.Done) (served_so setting w n after done queue) later same))
      queued (inl refl)

  -- its commit is made, and the server stops
  ends_so : (what : Step) (acted : Acted) → server.life.running ≡ true → IsWorked acted → F what (stops here acted.server) → S what (stops here acted.server)
  ends_so what _ runs (A_job after done queue same d seat queued) later = Ends after done runs (By_job after done same d seat)
  ends_so what _ runs (A_ballot after started posts queue same starts says queued) later = Ends after _ runs (By_ballot after started posts same starts says)
  ends_so what _ runs (An_entry after entry queue more same queued) later =
      let done = silent (settled_by here entry (crossed here.state entry own)) in
      Ends after done runs (By_entry after entry more (prefix_known what (stopped_so setting w n after done) later same))

  works_serve : (queue : List Job) → server.queue ≡ queue → (queue ≡ [] → ⊥) → server.life.running ≡ true → F (Work work_end.Done) (works here server queue)
      → S (Work work_end.Done) (works here server queue)
  works_serve [] e some runs = absurd (some refl)
  works_serve (what ∷ rest) e some runs =
      let acted = job_done here server what rest in
      by_test (λ a. F (Work work_end.Done) a → S (Work work_end.Done) a) (is_overfull acted.server) (stops here server) acted
      (λ full later. stops_serve (Work work_end.Done) runs) (λ room later. goes_on acted runs (job_worked what rest e) later)

  -- a device failed in a job, or was to stop the server, after its commit
  faults_serve : (step : Step) (queue : List Job) → server.queue ≡ queue → (queue ≡ [] → ⊥) → server.life.running ≡ true
      → F step (stops here (works here server queue).server) → S step (stops here (works here server queue).server)
  faults_serve step [] e some runs = absurd (some refl)
  faults_serve step (what ∷ rest) e some runs =
      let acted = job_done here server what rest in
      by_test (λ (a : Acted). F step (stops here a.server) → S step (stops here a.server)) (is_overfull acted.server) (stops here server) acted
      (λ full later. stops_serve step runs) (λ room later. ends_so step acted runs (job_worked what rest e) later)

  -- nothing is done
  rests_idle : IsIdle here own (silent own)
  unfolding In
  rests_idle = record { same = refl; asks = λ post i. absurd i }

  queue_started : AreQueued w n (server.queue ++ tick_jobs here server)
  queue_started letter i = elim (in-append (job.Letter letter) server.queue (tick_jobs here server) i) [
    | inl old ↦ rests.queues n letter old
    | inr new ↦ absurd (tick_only here server letter new)
  ]

  glances_serve : (line round : ℕ) → S (Glance line round) (glances here line round server)
  glances_serve line round = Stays (glance_sender here server) _
      (by_test (λ (who : Sender). who.from ≡ actor.Server n) server.life.running _ _ (λ t. refl) (λ t. refl))
      (λ post i. only (λ (p : Post). subject_of p.body ≡ Glanced) _ post i
      (by_test (λ (said : Body). subject_of said ≡ Glanced) server.life.running _ _ (λ t. refl) (λ t. refl)))

  stays_serve : (what : Step) → S what (stays server)
  unfolding In
  stays_serve what = Stays (glance_sender here server) []
      (by_test (λ (who : Sender). who.from ≡ actor.Server n) server.life.running _ _ (λ t. refl) (λ t. refl)) (λ post i. absurd i)

  boots_serve : (end : WorkEnd) → server.life.running ≡ false → S (Boot end) (boots here server end)
  boots_serve work_end.Done rests = by_test (S (Boot work_end.Done)) (has_full_log (raised server)) _ _
      (λ full. stays_serve (Boot work_end.Done)) (λ room. Wakes refl rests)
  boots_serve (work_end.Fault Before) rests = stays_serve (Boot (work_end.Fault Before))
  boots_serve (work_end.Fault After) rests =
      by_test (λ (x : Server). S (Boot (work_end.Fault After)) (stays x)) (has_full_log (raised server)) _ _
      (λ full. stays_serve (Boot (work_end.Fault After))) (λ room. Fails refl rests)

  step_serves : (what : Step) → is_blank what ≡ false → MayServer what setting w n → F what (server_step what (server_state setting w n) n server)
      → S what (server_step what (server_state setting w n) n server)
  unfolding In
  step_serves (Call line) other may later = absurd may
  step_serves (Deliver letter) other may later =
      by_test (λ (x : Server). S (Deliver letter) (record { server = x; letters = [] })) server.life.running _ _
      (λ runs. Goes log (silent own) _ runs (By_job log (silent own) refl Ignores (inr (leaves_silent own)))
      (queue_delivered letter may.comes.sent may.comes.own) (inr rests_idle))
      (λ rests. Stays (glance_sender here server) []
      (by_test (λ (who : Sender). who.from ≡ actor.Server n) server.life.running _ _ (λ t. refl) (λ t. refl)) (λ post i. absurd i))
  step_serves Tick other may later =
      let done : JobResult = record { own = own; posts = tick_posts here server; jobs = [] } in
      Goes (asks_next (voter_of here) log) done _ may.runs
      (By_job (asks_next (voter_of here) log) done refl (By_lead _ (Asks_for _ tick_asks)) (ticks.tick_seated it may.runs))
      queue_started
      (inr (record { same = refl; asks = tick_asks }))
  step_serves (Work work_end.Done) other may later = works_serve server.queue refl may.busy may.acts.runs later
  step_serves (Work (work_end.Fault Before)) other may later = stops_serve (Work (work_end.Fault Before)) may.acts.runs
  step_serves (Work (work_end.Fault After)) other may later = faults_serve (Work (work_end.Fault After)) server.queue refl may.busy may.acts.runs later
  step_serves (StopIn Before) other may later = stops_serve (StopIn Before) may.acts.runs
  step_serves (StopIn After) other may later = faults_serve (StopIn After) server.queue refl may.busy may.acts.runs later
  step_serves Blank other may later = true_false refl other
  step_serves Stop other may later = stops_serve Stop may.runs
  step_serves (Boot end) other may later = boots_serve end may.rests
  step_serves (Arm which plan) other may later = stays_serve (Arm which plan)
  step_serves (Glance line round) other may later = glances_serve line round

-- the same by its parts
pub server_serves : (setting : Setting) (w : World) → Rests setting w → Firm setting w → (n : ℕ) → IsSteady (server_state setting w n) → (stamp : ℕ)
    (what : Step) → is_blank what ≡ false → MayServer what setting w n
    → Firm setting (acts setting w n what stamp (server_step what (server_state setting w n) n (w.servers n))).world
    → Serving setting w n what (server_step what (server_state setting w n) n (w.servers n))
server_serves setting w rests firm n steady stamp =
    step_serves (record { setting = setting; w = w; rests = rests; firm = firm; n = n; steady = steady; stamp = stamp })
