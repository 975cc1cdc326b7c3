-- Each step of a server keeps what is kept of a world.
use Rattle.law_log.proofs.Imports.{[], if◌then◌else◌, ◌++◌, ◌+◌, ◌<◌, ◌==◌, ◌∙◌, ◌∷◌, ◌≡◌, ◌≤◌, ◌⊎◌, Acted, After, Among, Arm, Before, Blank, Boot, Call}
use Rattle.law_log.proofs.Imports.{Command, CommitEnd, Deliver, Glance, HasFlag, In, Inc, IsAskedFor, IsProposer, Job, JobContext, JobResult, Letter, Life}
use Rattle.law_log.proofs.Imports.{LinkId, List, LogDone, MayServer, None, Option, PairState, Phase, Sender, Server, Setting, Some, Step, Stop, StopIn, Tick}
use Rattle.law_log.proofs.Imports.{Work, WorkEnd, acts, ap, applies, applies_known, arith, ask_posts, awake, ballot_posts, blanked, boots, by_test}
use Rattle.law_log.proofs.Imports.{copies_again, crossed_by, crossing, delivered, does, down_posts, entered, false, faults, filter, first_wanted, flat_map}
use Rattle.law_log.proofs.Imports.{glance_sender, glances, has_full_log, in-append, inc_committed, inc_of, inl, inr, is_log_job, is_overfull, job_done}
use Rattle.law_log.proofs.Imports.{jobs_by, known, length, letters_of, log_does, next_place, not, only, own_wants, proposed, put_apart, put_at, put_same}
use Rattle.law_log.proofs.Imports.{raised, range_with_len, refl, rev_of, same_or_apart, sender, sent, sent_again, server_state, server_step, servers_of}
use Rattle.law_log.proofs.Imports.{starting, starts, stays, stopped, stops, subst, sym, tick_jobs, tick_posts, ticks, true, voter_of, wakes, wanted}
use Rattle.law_log.proofs.Imports.{wanted_by, worked, works, ℕ}
use Rattle.spec_rules.specs.Posts.{Post}
use Rattle.spec_rules.specs.World.{World}
use Rattle.law_log.specs.AgreedLog.{IsBacked, IsBusyAs, IsCalledAnywhere, IsSaidBy, IsSeenAt, Logged, Minded}
use Rattle.law_log.proofs.OneCommandEachPlace.{IsFair, as_many, told_once}
use Rattle.law_log.proofs.BootsRaiseIncarnations.{StoppedLog, fail_turn, no_proposer, wake_turn}
use Rattle.law_log.proofs.CaughtsWanted.{kept_proposed}
use Rattle.law_log.proofs.PairJobsLeaveLog.{IsKept, kept_itself, dated_again, dated_backed, other_backed}
use Rattle.law_log.proofs.PairLettersLeaveLog.{IsHarmless, harmless_job, dated_copies_again}
use Rattle.law_log.proofs.LogJobsInSchedule.{JobLog, Outcome, applied_next, fine_wanted, job_done as log_job_done, one_longer, started}
use Rattle.law_log.proofs.ProposersInSchedule.{first_among, said_to_all}
use Rattle.law_log.proofs.ScheduleTurns.{HasTurn, still, no_posts, stop_turn, turn_more, no_letter}
use Rattle.law_log.proofs.ServersKeepWorlds.{Acts, Goes, ServerStep, before_of, server_at, IsLaterLife, KeepsStarted, Remembers, may_more, same_life}
use Rattle.law_log.proofs.ServersKeepWorlds.{server_goes, server_sends, started_same}
use Rattle.law_log.proofs.OwnWants.{good_own, reached_next}
use Rattle.law_log.proofs.Queues.{ballot_backed, job_here, job_there, letter_is, no_command, stages_only, tick_only}
use Rattle.petal_msg.specs.declared.body.Body.TheVariants as body
use Rattle.petal_msg.specs.declared.letter.Actor.TheVariants as actor
use Rattle.spec_paxos.specs.Schedule as schedule
use Rattle.spec_rules.specs.declared.job.Job.TheVariants as job
use Rattle.spec_rules.specs.declared.step.WorkEnd.TheVariants as work_end
pub use Rattle.law_log.proofs.OwnWants.{join_only}
use Rattle.law_log.proofs.OwnWants as own_wants_of

-- ### Ballots in mind

-- it keeps them in mind, where it applies no entry, or else needs to no more
minds_on : (before to : Server) → before.life.inc ≡ to.life.inc → length before.log.applied < length to.log.applied → KeepsStarted before to
minds_on before to inc more = inr (
  inc,
  λ rev id h. record {
    reached = (let f = h.reached in omega arith);
    flagged = λ e. (let f = h.reached in absurd (omega arith));
  },
)

minds : (before to : Server) → before.life.inc ≡ to.life.inc → IsKept before.own to.own
    → (to.log.applied ≡ before.log.applied) ⊎ (length before.log.applied < length to.log.applied) → KeepsStarted before to
minds before to inc kept (inl same) = inr (
  inc,
  λ rev id h. record {
    reached = subst (λ (xs : List Command). rev ≤ length xs) (sym same) h.reached;
    flagged = λ e. kept.flags id (h.flagged (sym (ap length same) ∙ e));
  },
)
minds before to inc kept (inr more) = minds_on before to inc more

minds_stopped : (server : Server) (rev : ℕ) (id : LinkId) → HasFlag server rev id → HasFlag (stopped server) rev id
minds_stopped server rev id h = record { reached = h.reached; flagged = h.flagged }

minds_entry : (here : JobContext) (server : Server) (queue : List Job) (entry : Option Command)
    → KeepsStarted server (record server { log = (applies_known server.log entry).log; own = crossed_by here entry server.own; queue = queue })
minds_entry here server queue None = inr (refl, λ rev id h. record { reached = h.reached; flagged = h.flagged })
minds_entry here server queue (Some entry) = minds_on server _ refl (one_longer server.log.applied entry)

minds_crossed : (here : JobContext) (server : Server) (queue : List Job)
    → KeepsStarted server
    (record server { log = (applies server.log).log; own = crossed_by here (known server.log (next_place server.log)) server.own; queue = queue })
unfolding applies
minds_crossed here server queue = minds_entry here server queue (known server.log (next_place server.log))

module _ (it : ServerStep) where
  open it use {Was, setting, fair, w, l, n, stamp, member, what}
  open before_of it use {P, here, Good, left}

  abbrev Runs : Type 0
  Runs = (w.servers n).life.running ≡ true

  -- the world after the step
  abbrev GoesBy : Acted → Type 0
  GoesBy acted = Goes Was setting w (acts setting w n what stamp acted).world

  -- what may be wanted goes on to be, where the server keeps in mind what it has started
  good_more : (to later : Server) → KeepsStarted to later → (place : ℕ) (c : Command) → Good to place c → Good later place c
  good_more to later keeps = may_more setting w w (put_at w.servers n to) (put_at w.servers n later) P P (λ c h. h) each (λ x i. i)
    where
      each : (s : ℕ) → KeepsStarted (put_at w.servers n to s) (put_at w.servers n later s)
      each s = elim (same_or_apart s n) [
        | inl e ↦ subst (λ k. KeepsStarted (put_at w.servers n to k) (put_at w.servers n later k)) (sym e)
            (subst (λ (x : Server × Server). KeepsStarted x.0 x.1) (λ i. (sym (put_same w.servers n to) i, sym (put_same w.servers n later) i)) keeps)
        | inr ne ↦ subst (λ (x : Server × Server). KeepsStarted x.0 x.1)
            (λ i. (sym (put_apart w.servers n to s ne) i, sym (put_apart w.servers n later s ne) i))
            (started_same (w.servers s))
      ]

  -- ### What a step leaves of the log

  -- the log stays as it is, but for which server is asked next
  idle : (to : Server) (posts : List Post) → to.life ≡ (w.servers n).life → to.log.records ≡ (w.servers n).log.records
      → IsKept (w.servers n).own to.own
      → to.log.applied ≡ (w.servers n).log.applied
      → to.log.phase ≡ (w.servers n).log.phase → to.log.wants ≡ (w.servers n).log.wants → to.log.leaves ≡ (w.servers n).log.leaves
      → ((letter : Letter) → Among (job.Letter letter) to.queue → Among letter w.sent)
      → ((post : Post) → Among post posts → IsBacked P (λ c. ⊥) (λ said. In (sent n said) P.letters) post.body)
      → Acts Was setting w P n to posts
  idle to posts life records kept applied phase wants leaves queued posted = record {
    incs = ap inc_of records ∙ l.is.incs n ∙ sym (ap (λ (x : Life). x.inc) life);
    life = subst (IsLaterLife (w.servers n).life) (sym life) (same_life (w.servers n).life);
    started = minds (w.servers n) to (sym (ap (λ (x : Life). x.inc) life)) kept (inl applied);
    wants = λ c i. l.is.wants n c (subst (Among c) wants i);
    leaves = λ c i. l.is.leaves n c (subst (Among c) leaves i);
    queued = queued;
    turn = still setting.servers n to.life.running to.log posts P (Good to) l.is.low
        (subst (λ (x : _ × _). IsSeenAt n x.0 x.1 P) (λ i. (sym records i, sym applied i)) (l.is.servers n))
        (subst (λ (x : Life × Phase). IsBusyAs setting.servers n x.0.running x.1 P) (λ i. (sym life i, sym phase i)) (l.is.busy n member)) posted;
  }

  unchanged : Acts Was setting w P n (w.servers n) []
  unchanged = idle (w.servers n) [] refl refl (kept_itself (w.servers n).own) refl refl refl refl (λ other h. l.is.queued n other h) (λ post h. no_posts post h)

  -- what a job does, and sends at the server's revision
  record Did (acted : Acted) : Type 0 where
    posts : List Post
    letters : acted.letters ≡ letters_of (sender here) 0 posts
    by : Acts Was setting w P n acted.server posts

  did_goes : (acted : Acted) → Did acted → GoesBy acted
  did_goes acted did = subst (λ letters. GoesBy (record { server = acted.server; letters = letters })) (sym did.letters)
      (server_goes it (sender here) refl acted.server did.posts did.by)

  -- ### A stop

  -- the incarnation of which a Down tells is over
  abbrev IsOver : Life → Type 0
  IsOver life = ((life.running ≡ false) × (here.inc ≤ life.inc)) ⊎ (here.inc < life.inc)

  down_backed : (to : Server) → IsOver to.life → (letters : List Letter) (q : schedule.World) (post : Post)
      → Among post (down_posts n here.inc (servers_of here.state))
      → IsBacked q (IsCalledAnywhere setting (acts setting w n what stamp (record { server = to; letters = letters })).world)
      (λ said. In (sent n said) q.letters) post.body
  down_backed to over letters q post i =
      let after = (acts setting w n what stamp (record { server = to; letters = letters })).world in
      let is : after.servers n ≡ to = put_same w.servers n to in
      subst (IsBacked q (IsCalledAnywhere setting after) (λ said. In (sent n said) q.letters))
      (sym (said_to_all (body.Down n here.inc) (filter (λ k. not (k == n)) (range_with_len 0 (servers_of here.state))) post i))
      (inr (subst (λ (x : Server). IsOver x.life) (sym is) over), refl)

  -- what the server did stands, and nothing of it is sent
  stops_after : (to : Server) (posts : List Post) → to.life.running ≡ true → Acts Was setting w P n to posts → GoesBy (stops here to)
  stops_after to posts runs did =
      let over : Acts Was setting w P n (stopped to) [] = record {
        life = record { inc = did.life.inc; over = λ e. inl refl };
        incs = did.incs;
        wants = did.wants;
        leaves = did.leaves;
        queued = λ letter h. no_letter letter h;
        started = elim did.started [ inl lt ↦ inl lt | inr h ↦ inr (h.0, λ rev id f. minds_stopped to rev id (h.1 rev id f)) ];
        turn = stop_turn setting.servers n to.log posts P (Good (stopped to))
            (turn_more setting.servers n true to.log posts P (Good to) (Good (stopped to)) (good_more to (stopped to) (inr (refl, minds_stopped to)))
            (subst (λ b. HasTurn setting.servers n b to.log posts P (Good to)) runs did.turn));
      } in
      server_sends it (record { from = actor.Server n; inc = here.inc; rev = 0 }) refl (stopped to)
      (down_posts n here.inc (servers_of here.state)) [] over
      (λ post i. down_backed (stopped to) (inl (refl, did.life.inc)) (stops here to).letters _ post i)

  stops_now : Runs → GoesBy (stops here (w.servers n))
  stops_now runs = stops_after (w.servers n) [] runs unchanged

  -- a server that takes no step of its own
  rests_on : GoesBy (stays (w.servers n))
  rests_on = did_goes _ (record { posts = []; letters = refl; by = unchanged })

  -- the server's log is as before, and it has nothing else in mind
  blanks_on : GoesBy (stays (blanked (w.servers n)))
  blanks_on = did_goes _ (record {
    posts = [];
    letters = refl;
    by = idle (blanked (w.servers n)) [] refl refl (record { flags = λ id h. h }) refl refl refl refl
        (λ other h. l.is.queued n other h) (λ post h. no_posts post h);
  })

  -- ### Delivery, tick and glance

  delivers : (letter : Letter) → Among letter w.sent → GoesBy (record { server = delivered (w.servers n) letter; letters = [] })
  delivers letter i =
      by_test (λ (to : Server). GoesBy (record { server = to; letters = [] })) (w.servers n).life.running _ _
      (λ e. did_goes _ (record {
        posts = [];
        letters = refl;
        by = idle (record (w.servers n) { queue = (w.servers n).queue ++ job.Letter letter ∷ [] }) []
            refl refl (kept_itself (w.servers n).own) refl refl refl refl
            (λ other h. elim (in-append (job.Letter other) (w.servers n).queue (job.Letter letter ∷ []) h) [
              | inl old ↦ l.is.queued n other old
              | inr new ↦
                  (let same : job.Letter other ≡ job.Letter letter = only (λ x. x ≡ job.Letter letter) (job.Letter letter) (job.Letter other) new refl in
                  subst (λ x. Among x w.sent) (sym (letter_is other letter same)) i)
            ])
            (λ post h. no_posts post h);
      }))
      (λ e. did_goes _ (record { posts = []; letters = refl; by = unchanged }))

  ticks_on : GoesBy (ticks here (w.servers n))
  ticks_on =
      let ballots = ballot_posts (voter_of here) (w.servers n).log.phase in
      let pairs = flat_map (λ row. sent_again here (w.servers n).own row.1) (w.servers n).own.pairs.pending in
      did_goes (ticks here (w.servers n)) (record {
        posts = tick_posts here (w.servers n);
        letters = refl;
        by =
            idle (ticks here (w.servers n)).server (tick_posts here (w.servers n)) refl refl (kept_itself (w.servers n).own) refl refl refl refl
            (λ other h. elim (in-append (job.Letter other) (w.servers n).queue (tick_jobs here (w.servers n)) h) [
              | inl old ↦ l.is.queued n other old
              | inr new ↦ absurd (tick_only here (w.servers n) other new)
            ])
            (λ post h. elim (in-append post (ballots ++ pairs ++ copies_again here (w.servers n).own) (ask_posts (voter_of here) (w.servers n).log) h) [
              | inl former ↦ elim (in-append post (ballots ++ pairs) (copies_again here (w.servers n).own) former) [
                | inr copy ↦ dated_backed P (λ c. ⊥) (λ said. In (sent n said) P.letters) post.body (dated_copies_again here (w.servers n).own post copy)
                | inl earlier ↦ elim (in-append post ballots pairs earlier) [
                  | inl ballot ↦ ballot_backed P n (voter_of here) (w.servers n).log.phase
                      (subst (λ k. IsAskedFor P n k (w.servers n).log.phase) (sym (as_many setting w fair l n)) (l.is.busy n member).asked) post ballot
                  | inr pair ↦ dated_backed P (λ c. ⊥) (λ said. In (sent n said) P.letters) post.body
                      (dated_again here (w.servers n).own (w.servers n).own.pairs.pending post pair)
                ]
              ]
              | inr ask ↦ only (λ (x : Post). IsBacked P (λ c. ⊥) (λ said. In (sent n said) P.letters) x.body) _ post ask tt
            ]);
      })

  glances_on : (line round : ℕ) → GoesBy (glances here line round (w.servers n))
  glances_on line round =
      server_goes it (glance_sender here (w.servers n))
      (by_test (λ (who : Sender). who.from ≡ actor.Server n) (w.servers n).life.running _ _ (λ e. refl) (λ e. refl)) (w.servers n) _
      (idle (w.servers n) _ refl refl (kept_itself (w.servers n).own) refl refl refl refl (λ other h. l.is.queued n other h)
      (λ post h. only (λ (x : Post). IsBacked P (λ c. ⊥) (λ said. In (sent n said) P.letters) x.body) _ post h
      (by_test (IsBacked P (λ c. ⊥) (λ said. In (sent n said) P.letters)) (w.servers n).life.running _ _ (λ e. tt) (λ e. tt))))

  -- ### A job

  module _ (runs : Runs) (first : Job) (rest : List Job) (is : (w.servers n).queue ≡ first ∷ rest) where
    was_queued : (letter : Letter) → Among (job.Letter letter) rest → Among letter w.sent
    was_queued letter h = l.is.queued n letter (subst (Among (job.Letter letter)) (sym is) (job_there (job.Letter letter) first rest h))

    abbrev AnyOutcome : Server → LogDone → Type 0
    AnyOutcome to = Outcome setting.servers n (w.servers n).log first P (Good to) (IsCalledAnywhere setting w)

    logs : (done : LogDone) (own : PairState) (queue : List Job)
        → KeepsStarted (w.servers n) (left done own queue) → AnyOutcome (left done own queue) done
        → ((letter : Letter) → Among (job.Letter letter) queue → Among (job.Letter letter) (rest ++ done.jobs))
        → Acts Was setting w P n (left done own queue) done.posts
    logs done own queue started out follows = record {
      incs = out.incs ∙ l.is.incs n;
      life = same_life (w.servers n).life;
      wants = out.wants;
      leaves = out.leaves;
      queued = λ other h. elim (in-append (job.Letter other) rest done.jobs (follows other h)) [
        | inl old ↦ was_queued other old
        | inr new ↦ l.is.queued n other (subst (λ x. Among x (w.servers n).queue) (out.follows other new)
            (subst (Among first) (sym is) (job_here first rest)))
      ];
      started = started;
      turn = subst (λ b. HasTurn setting.servers n b done.log done.posts P (Good (left done own queue))) (sym runs) out.turn;
    }

    pairs_do : (done : JobResult) → IsHarmless (w.servers n).own done → Did (worked here (w.servers n) rest done)
    pairs_do done leaves = record {
      posts = done.posts;
      letters = refl;
      by = idle (record (w.servers n) { own = done.own; queue = rest ++ done.jobs }) done.posts refl refl leaves.kept refl refl refl refl
          (λ other h. elim (in-append (job.Letter other) rest done.jobs h) [
            | inl old ↦ was_queued other old
            | inr new ↦ absurd (leaves.jobs other new)
          ])
          (λ post h. other_backed P (λ c. ⊥) (λ said. In (sent n said) P.letters) post.body (leaves.posts post h));
    }

    backed_job : (letter : Letter) → first ≡ job.Letter letter → IsBacked P (IsCalledAnywhere setting w) (IsSaidBy P letter.from) letter.body
    backed_job letter e =
        l.is.sent letter (l.is.queued n letter (subst (λ x. Among x (w.servers n).queue) e (subst (Among first) (sym is) (job_here first rest))))

    busy_now : IsBusyAs setting.servers n true (w.servers n).log.phase P
    busy_now = subst (λ b. IsBusyAs setting.servers n b (w.servers n).log.phase P) runs (l.is.busy n member)

    called_good : (to : Server) (c : Command) → IsCalledAnywhere setting w c → Good to (next_place (w.servers n).log) c
    called_good to c s = (inl s, reached_next setting w l n)

    -- the log that the job finds, where it leaves the server so
    abbrev job_log : Server → JobLog
    job_log to = record {
      voting = record {
        running = record {
          servers = setting.servers;
          n = n;
          log = (w.servers n).log;
          p = P;
          low = l.is.low;
          seen = l.is.servers n;
          busy = busy_now;
        };
        inc = here.inc;
        small = fair.small;
        member = member;
      };
      one = told_once setting w fair.small l;
      Good = Good to;
      Fine = IsCalledAnywhere setting w;
      fine = l.is.wants n;
      leaving = l.is.leaves n;
      own_leaving = λ earlier lt. (inr (inr lt), refl);
      good = called_good to;
    }

    log_outcome : (to : Server) → AnyOutcome to (log_does (voter_of here) (w.servers n).log first)
    log_outcome to =
        subst (λ k. AnyOutcome to (log_does (record { me = n; inc = here.inc; servers = k }) (w.servers n).log first)) (sym (as_many setting w fair l n))
        (log_job_done (job_log to) first backed_job)

    apply_outcome : (to : Server) → AnyOutcome to (applies (w.servers n).log)
    apply_outcome to =
        applied_next (job_log to) first

    crosses : Did (crossing here (w.servers n) rest (known (w.servers n).log (next_place (w.servers n).log)) (applies (w.servers n).log))
    crosses =
        let done = applies (w.servers n).log in
        let entry = known (w.servers n).log (next_place (w.servers n).log) in
        let queue = rest ++ done.jobs ++ jobs_by here.state n entry (w.servers n).own in record {
          posts = done.posts;
          letters = refl;
          by = logs done (crossed_by here entry (w.servers n).own) queue
              (minds_crossed here (w.servers n) queue)
              (apply_outcome (left done (crossed_by here entry (w.servers n).own) queue))
              (λ letter h. elim (in-append (job.Letter letter) (rest ++ done.jobs) (jobs_by here.state n entry (w.servers n).own) h) [
                | inl old ↦ old
                | inr new ↦ stages_only here.state n entry (w.servers n).own letter new
              ]);
        }

    either : Did (if is_log_job first then entered here (w.servers n) rest (log_does (voter_of here) (w.servers n).log first)
        else worked here (w.servers n) rest (does here (w.servers n).own first))
    either = by_test Did (is_log_job first) _ _
        (λ e. let done = log_does (voter_of here) (w.servers n).log first in
        let to = left done (w.servers n).own (rest ++ done.jobs) in
        let out = log_outcome to in record {
          posts = done.posts;
          letters = refl;
          by = logs done (w.servers n).own (rest ++ done.jobs) (minds (w.servers n) to refl (kept_itself (w.servers n).own) out.applied) out (λ letter h. h);
        })
        (λ e. pairs_do (does here (w.servers n).own first) (harmless_job here (w.servers n).own first))

    -- ### A ballot starts

    -- what is wanted, by how many servers there are
    abbrev wants_of : ℕ → List Command
    wants_of k = wanted (record { me = n; inc = here.inc; servers = k }) (w.servers n).log (own_wants here (w.servers n).own)

    abbrev With : ℕ → LogDone
    With k = starts (record { me = n; inc = here.inc; servers = k }) (w.servers n).log (wants_of k)

    abbrev started_for : Option Command
    started_for = own_wants_of.started_for it runs rest

    abbrev starts_to : Server
    starts_to = own_wants_of.starts_to it runs rest

    start_outcome : Remembers Was setting.servers n (w.servers n) starts_to
        → AnyOutcome starts_to (starts (voter_of here) (w.servers n).log (wanted_by here (w.servers n)))
    start_outcome remembers =
        subst (λ k. AnyOutcome starts_to (With k)) (sym (as_many setting w fair l n))
        (started (job_log starts_to) first
        (wants_of setting.servers)
        (λ c e. elim (fine_wanted (job_log starts_to)
        (own_wants here (w.servers n).own) c (first_among (w.servers n).log.phase (rev_of (w.servers n).log) (wants_of setting.servers) c e)) [
          | inl called ↦ called_good starts_to c called
          | inr owns ↦ good_own it runs rest remembers c
              (ap (λ k. first_wanted (w.servers n).log.phase (rev_of (w.servers n).log) (wants_of k)) (as_many setting w fair l n) ∙ e) owns
        ]))

    starts_one : Remembers Was setting.servers n (w.servers n) starts_to → Did (starting here (w.servers n) rest (wanted_by here (w.servers n)))
    starts_one remembers =
        let done = starts (voter_of here) (w.servers n).log (wanted_by here (w.servers n)) in
        let kept = kept_proposed here.state (w.servers n).own started_for in
        let out = start_outcome remembers in record {
          posts = done.posts;
          letters = refl;
          by = logs done (proposed here.state (w.servers n).own started_for) (rest ++ done.jobs)
              (minds (w.servers n) starts_to refl kept out.applied) out (λ letter h. h);
        }

  does_job : Runs → (first : Job) (rest : List Job) → (w.servers n).queue ≡ first ∷ rest
      → Remembers Was setting.servers n (w.servers n) (job_done here (w.servers n) first rest).server → Did (job_done here (w.servers n) first rest)
  does_job runs job.Apply rest is remembers = crosses runs job.Apply rest is
  does_job runs job.Start rest is remembers = starts_one runs job.Start rest is remembers
  does_job runs first rest is remembers = either runs first rest is

  life_kept : Runs → (first : Job) (rest : List Job) → (job_done here (w.servers n) first rest).server.life.running ≡ true
  life_kept runs (job.Letter letter) rest =
      by_test (λ (acted : Acted). acted.server.life.running ≡ true) (is_log_job (job.Letter letter)) _ _ (λ e. runs) (λ e. runs)
  life_kept runs _ rest = runs

  works_on : Runs → (jobs : List Job) → (w.servers n).queue ≡ jobs → Remembers Was setting.servers n (w.servers n) (works here (w.servers n) jobs).server
      → GoesBy (works here (w.servers n) jobs)
  works_on runs [] is remembers = did_goes _ (record { posts = []; letters = refl; by = unchanged })
  works_on runs (first ∷ rest) is remembers =
      by_test (λ (acted : Acted). Remembers Was setting.servers n (w.servers n) acted.server → GoesBy acted)
      (is_overfull (job_done here (w.servers n) first rest).server) _ _
      (λ full kept. stops_now runs) (λ room kept. did_goes (job_done here (w.servers n) first rest) (does_job runs first rest is kept)) remembers

  -- a fault after the commit leaves what the job commits, and one before it nothing
  faults_on : Runs → (end : CommitEnd) (jobs : List Job) → (w.servers n).queue ≡ jobs
      → Remembers Was setting.servers n (w.servers n) (faults here (w.servers n) jobs end).server → GoesBy (faults here (w.servers n) jobs end)
  faults_on runs Before jobs is remembers = stops_now runs
  faults_on runs After [] is remembers = stops_now runs
  faults_on runs After (first ∷ rest) is remembers =
      by_test (λ (acted : Acted). Remembers Was setting.servers n (w.servers n) (stopped acted.server) → GoesBy (stops here acted.server))
      (is_overfull (job_done here (w.servers n) first rest).server) _ _
      (λ full kept. stops_now runs)
      (λ room kept. let did = does_job runs first rest is (record { waits = kept.waits; drains = kept.drains; moves = kept.moves; catches = kept.catches }) in
      stops_after (job_done here (w.servers n) first rest).server did.posts (life_kept runs first rest) did.by) remembers

  -- ### A boot

  module _ (rests : (w.servers n).life.running ≡ false) where
    asleep : P.proposers n ≡ None
    asleep = no_proposer (w.servers n).log.phase (P.proposers n)
        (subst (λ b. IsProposer b (w.servers n).log.phase (P.proposers n)) rests (l.is.busy n member).proposer)

    abbrev stopped_log : StoppedLog
    stopped_log = record {
      servers = setting.servers;
      n = n;
      log = (w.servers n).log;
      p = P;
      inc = (w.servers n).life.inc;
      is = l.is.incs n;
      low = l.is.low;
      seen = l.is.servers n;
      asleep = asleep;
    }

    raised_inc : inc_of (raised (w.servers n)).log.records ≡ (w.servers n).life.inc + 1
    raised_inc = inc_committed (w.servers n).log.records (Inc ((w.servers n).life.inc + 1))

    wakes_on : GoesBy (wakes here (awake (raised (w.servers n))))
    wakes_on =
        let to = awake (raised (w.servers n)) in
        let did : Acts Was setting w P n to [] = record {
          life = record { inc = omega arith; over = λ e. inr (omega arith) };
          incs = raised_inc;
          wants = λ c i. no_command c i;
          leaves = λ c i. no_command c i;
          queued = λ letter h. no_letter letter h;
          started = inl (omega arith);
          turn = wake_turn stopped_log (Good to);
        } in
        server_sends it (record { from = actor.Server n; inc = (w.servers n).life.inc + 1; rev = rev_of to.log }) refl to
        (down_posts n here.inc (servers_of here.state)) [] did
        (λ post i. down_backed to (inr (omega arith)) (wakes here to).letters _ post i)

    fails_on : GoesBy (stays (raised (w.servers n)))
    fails_on = did_goes _ (record {
      posts = [];
      letters = refl;
      by = record {
        life = record { inc = omega arith; over = λ e. inl e };
        incs = raised_inc;
        wants = l.is.wants n;
        leaves = l.is.leaves n;
        queued = l.is.queued n;
        started = inl (omega arith);
        turn = subst (λ b. HasTurn setting.servers n b (raised (w.servers n)).log [] P (Good (raised (w.servers n)))) (sym rests)
            (fail_turn stopped_log (Good (raised (w.servers n)))
            (subst (λ b. IsBusyAs setting.servers n b (w.servers n).log.phase P) rests (l.is.busy n member)));
      };
    })

    boots_on : (end : WorkEnd) → GoesBy (boots here (w.servers n) end)
    boots_on work_end.Done = by_test GoesBy (has_full_log (raised (w.servers n))) _ _ (λ full. rests_on) (λ room. wakes_on)
    boots_on (work_end.Fault Before) = rests_on
    boots_on (work_end.Fault After) =
        by_test (λ (to : Server). GoesBy (stays to)) (has_full_log (raised (w.servers n))) _ _ (λ full. rests_on) (λ room. fails_on)

pub server_steps : {Was : Minded} {setting : Setting} (fair : IsFair setting) (w : World) (l : Logged Was setting w) (n stamp : ℕ)
    (member : n < setting.servers) (what : Step)
    → MayServer what setting w n → Remembers Was setting.servers n (w.servers n) (server_step what (server_state setting w n) n (w.servers n)).server
    → Goes Was setting w (acts setting w n what stamp (server_step what (server_state setting w n) n (w.servers n))).world
server_steps fair w l n stamp member (Call line) may remembers = absurd may
server_steps fair w l n stamp member (Deliver letter) may remembers =
    delivers (server_at fair l n stamp member (Deliver letter)) letter may.comes.sent
server_steps fair w l n stamp member Tick may remembers = ticks_on (server_at fair l n stamp member Tick)
server_steps fair w l n stamp member (Work work_end.Done) may remembers =
    works_on (server_at fair l n stamp member (Work work_end.Done)) may.acts.runs (w.servers n).queue refl remembers
server_steps fair w l n stamp member (Work (work_end.Fault end)) may remembers =
    faults_on (server_at fair l n stamp member (Work (work_end.Fault end))) may.acts.runs end (w.servers n).queue refl remembers
server_steps fair w l n stamp member (StopIn end) may remembers =
    faults_on (server_at fair l n stamp member (StopIn end)) may.acts.runs end (w.servers n).queue refl remembers
server_steps fair w l n stamp member Stop may remembers = stops_now (server_at fair l n stamp member Stop) may.runs
server_steps fair w l n stamp member Blank may remembers = blanks_on (server_at fair l n stamp member Blank)
server_steps fair w l n stamp member (Boot end) may remembers = boots_on (server_at fair l n stamp member (Boot end)) may.rests end
server_steps fair w l n stamp member (Arm which plan) may remembers = rests_on (server_at fair l n stamp member (Arm which plan))
server_steps fair w l n stamp member (Glance line round) may remembers =
    glances_on (server_at fair l n stamp member (Glance line round)) line round
