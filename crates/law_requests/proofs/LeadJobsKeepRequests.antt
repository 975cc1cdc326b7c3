-- Each kind of job keeps what is known of requests: by what it is done with, what it leaves pending, and what it says.
use Rattle.law_requests.proofs.Imports.{◌+◌, ◌∙◌, ◌≡◌, ◌≤◌, ◌⊎◌, Actor, Alone_has, Body, Both_have, By_operation, Cell, Command, Did, Ending, Ends_fill}
use Rattle.law_requests.proofs.Imports.{Finished, For_a_fill, For_a_write, Had_no_slot, Handled, HasCome, HasEnded, HasFinished, HasProperTuples, In}
use Rattle.law_requests.proofs.Imports.{IsFinishedFor, IsNew, IsPrefix, IsSeatedOrMute, Is_declined, Is_done, Is_new, Is_retired, JobContext, JobResult, List}
use Rattle.law_requests.proofs.Imports.{Moves, Moves_on, None, None_new, PairState, Pending, Post, Refused, Repeats, Setting, Shows_nothing, Some, Stood}
use Rattle.law_requests.proofs.Imports.{Table, Wanted, Was, World, ap, arith, at, at_apart, at_same, cell_cmp, coming, did_come, did_finish, done_to, ended}
use Rattle.law_requests.proofs.Imports.{false, held, inl, inr, is_clients, is_in, is_lead, is_logged, is_not_here, is_refused, is_writes_held, length}
use Rattle.law_requests.proofs.Imports.{letters_of_job, log_rev, nat_cmp, none_some, own_place, own_plain, prefix_itself, prefix_same, put, refl, rev_of}
use Rattle.law_requests.proofs.Imports.{same_or_apart, state_after, subject_of, subst, sym, true, true_false, was_same, was_taken, ℕ}
use Rattle.law_requests.specs.AskedRequests.{IsWrite, IsOpen, IsRead}
use Rattle.law_requests.specs.KnownRequests.{Lives, LedBy, seen, done_by, WriteKnown, Known, asked_for, IsUsed, Has_finished, AskingBy, NothingKnown}
use Rattle.law_requests.specs.KnownRequests.{ReadKnown}
use Rattle.law_requests.proofs.EndedRequestsLeaveNothing.{write_now}
use Rattle.law_requests.proofs.ServerStepsKeepRequests.{Ends, Tells, SaysOk, JobTells, Scene, same_want}
use Rattle.law_requests.proofs.RequestsKnownLater.{tells_request, logged_untold, one_log}
use Rattle.law_requests.proofs.OpenWhileRunning.{IsUnleft, PendingHere, here_led, late_where, own_prefix, open_running, pending_here, unleft_now}
use Rattle.law_requests.proofs.WritesAtLaterPrefixes.{coming_untold}
use Rattle.law_jobs.specs.Sayings.{Says}
use Rattle.petal_msg.specs.declared.body.Body.TheVariants as body
use Rattle.petal_msg.specs.declared.letter.Actor.TheVariants as actor
use Rattle.petal_msg.specs.declared.operation.Ending.TheVariants as ending
use Rattle.petal_msg.specs.declared.operation.OpKind.TheVariants as kind
use Rattle.law_jobs.specs.Sayings as says

-- a job tells what it leaves, and says nothing else of requests
pub record Shows (setting : Setting) (w : World) (lives : Lives) (n : ℕ) (new : PairState) (posts : List Post) : Type 0 where
  pub tells : JobTells setting w lives n new
  pub says : (post : Post) → In post posts → SaysOk setting w lives n new post.to post.body

-- what is known of the letter that a server handles
pub known_of : (setting : Setting) (w : World) (lives : Lives) → AskingBy setting w lives → (n : ℕ) (said : Body) (h : Handled w n said)
    → Known setting (seen lives w) h.letter.from (actor.Server n) (rev_of (w.servers n).log) said
known_of setting w lives asking n said h =
    subst (λ (b : Body). Known setting (seen lives w) h.letter.from (actor.Server n) (rev_of (w.servers n).log) b) h.is
    (subst (λ (r : ℕ). Known setting (seen lives w) h.letter.from (actor.Server n) r h.letter.body) h.at
    (subst (λ (a : Actor). Known setting (seen lives w) h.letter.from a h.letter.rev h.letter.body) h.own (asking.letters h.letter h.sent)))

-- a server at its work, and what a job has to show of what it leaves and says
pub record AtWork : Type 1 where
  pub here : JobContext
  pub own : PairState
  pub hears : Body → Type 0
  pub J : PairState → List Post → Type 0
  pub S : PairState → Actor → Body → Type 0

abbrev pub at_work : Scene → ℕ → AtWork
at_work scene n = record {
  here = own_place scene.setting scene.w n;
  own = (scene.w.servers n).own;
  hears = Handled scene.w n;
  J = λ new posts. Shows scene.setting scene.w scene.lives n new posts;
  S = λ new to said. SaysOk scene.setting scene.w scene.lives n new to said;
}

module _ (scene : Scene) (n : ℕ) (runs : (scene.w.servers n).life.running ≡ true) where
  open scene use {setting, w, lives, asking}
  open at_work scene n use {here, own, J, S, hears}

  -- the server is In as itself
  abbrev IsSeat : Type 0
  IsSeat = is_in here.state n here.inc ≡ true

  -- the letter of a write, which has the server's revision
  wanted_known : (want : Wanted) → hears (body.Write want.client want.seq want.cell want.epoch want.bytes)
      → WriteKnown setting (seen lives w) want here.state.rev
  wanted_known want h =
      subst (λ (r : ℕ). WriteKnown setting (seen lives w) want r) (sym (log_rev setting.servers (w.servers n).log.applied))
      (known_of setting w lives asking n _ h)

  ran_now : lives.ran n ≡ (w.servers n).life.inc
  ran_now = asking.lived.ran n runs

  abbrev own_log : List Command
  own_log = (w.servers n).log.applied

  at_own : (want : Wanted) (k : WriteKnown setting (seen lives w) want here.state.rev) → own_log ≡ k.sent.at.prefix
  at_own want k = own_prefix setting w scene.firm want.client n here.state.rev k.sent.at (sym (log_rev setting.servers own_log))

  -- the server leads the cell at that revision
  led_then : (want : Wanted) (k : WriteKnown setting (seen lives w) want here.state.rev) → IsSeat → is_lead here.state n want.cell ≡ true
      → LedBy (state_after setting.servers k.sent.at.prefix) n here.inc want.cell
  led_then want k seat lead =
      subst (λ log. LedBy (state_after setting.servers log) n here.inc want.cell) (at_own want k) (record { seated = seat; leads = lead })

  -- the write is of its cell by the server's own state
  write_here : (want : Wanted) (k : WriteKnown setting (seen lives w) want here.state.rev)
      → IsWrite here.state setting.lines want.client want.seq want.cell want.bytes
  write_here want k =
      subst (λ log. IsWrite (state_after setting.servers log) setting.lines want.client want.seq want.cell want.bytes) (sym (at_own want k)) k.sent.served

  -- what has something pending, or has finished something, is In as itself
  used_seat : IsUsed own → IsSeat
  used_seat used = subst (λ i. is_in here.state n i ≡ true) ran_now (asking.used n used)

  -- what speaks of no request
  pub nothing_said : (new : PairState) (to : Actor) (said : Body) → tells_request (subject_of said) ≡ false → S new to said
  nothing_said new to (body.Read client seq cell epoch) e = true_false refl e
  nothing_said new to (body.Write client seq cell epoch bytes) e = true_false refl e
  nothing_said new to (body.Written seq) e = true_false refl e
  nothing_said new to (body.Full seq) e = true_false refl e
  nothing_said new to (body.NotHere seq) e = true_false refl e
  nothing_said new to _ e = tt

  -- nor does a refusal
  pub refusal_said : (new : PairState) (to : Actor) (said : Body) → subject_of said ≡ Refused → is_not_here said ≡ false → S new to said
  refusal_said new to (body.Read client seq cell epoch) e other = true_false refl (sym (ap is_refused e))
  refusal_said new to (body.Write client seq cell epoch bytes) e other = true_false refl (sym (ap is_refused e))
  refusal_said new to (body.Written seq) e other = true_false refl (sym (ap is_refused e))
  refusal_said new to (body.Full seq) e other = true_false refl (sym (ap is_refused e))
  refusal_said new to (body.NotHere seq) e other = true_false refl other
  refusal_said new to _ e other = tt

  ended_says : (new : PairState) (c seq : ℕ) (how : Ending) → Tells setting w n new c seq → S new (actor.Client c) (ended seq how)
  ended_says new c seq ending.Written t = t
  ended_says new c seq ending.Full t = t

  -- a cell that the server leads, and whose writes no fence holds, has not been left
  unleft_new : (want : Wanted) → IsSeat → IsNew hears here own want → IsUnleft setting w n (lives.ran n) want.cell
  unleft_new want seat new = unleft_now setting w scene.firm lives scene.reports n want.cell
      (subst (λ i. LedBy here.state n i want.cell) (sym ran_now) (record { seated = seat; leads = new.lead })) new.unfenced

  -- a write that is not finished is open still
  new_open : (want : Wanted) → IsSeat → IsNew hears here own want → IsOpen (w.clients want.client) want.seq
  new_open want seat new =
      let k = wanted_known want new.wanted in
      let led = led_then want k seat new.lead in
      elim k.still [
        | inl open_now ↦ open_now.now
        | inr late ↦ elim (late_where setting w scene.firm lives n runs want.cell (record { seated = seat; leads = new.lead })
            (subst (λ i. IsUnleft setting w n i want.cell) ran_now (unleft_new want seat new)) k.sent.at.prefix
            (prefix_same own_log k.sent.at.prefix (sym (at_own want k))) want.client want.seq (late n here.inc led)) [
              | inl lt ↦ (
                  let newer = new.newer in
                  let tied : lives.done n here.inc want.client ≡ done_by own want.client =
                  ap (λ i. lives.done n i want.client) (sym ran_now) ∙ asking.lived.tied n want.client in
                  absurd (omega arith))
              | inr kept ↦ true_false kept new.unheld
            ]
      ]

  new_pending : (want : Wanted) → IsSeat → IsNew hears here own want → PendingHere setting w lives n want here.state.rev
  new_pending want seat new =
      let k = wanted_known want new.wanted in
      let newer = new.newer in
      let tied = asking.lived.tied n want.client in
      let at = at_own want k in
      record {
        known = record {
          known = k;
          unfenced = subst (λ log. is_writes_held (held (state_after setting.servers log) want.cell) ≡ false) at new.unfenced;
          upto = own_log;
          opened = prefix_same k.sent.at.prefix own_log at;
          applied = prefix_itself own_log;
          along = λ log more lies.
              let same : log ≡ own_log = one_log log own_log lies (subst (λ f. IsPrefix f log) (sym at) more) in
              subst (λ l. LedBy (state_after setting.servers l) n (lives.ran n) want.cell) (sym same)
              (subst (λ i. LedBy here.state n i want.cell) (sym ran_now) (record { seated = seat; leads = new.lead }));
          unfinished = omega arith;
        };
        here = refl;
        unheld = new.unheld;
        stays = unleft_new want seat new;
      }

  -- ### What a job is done with

  -- a request of a client, which is open, with which the server is done
  record IsOver (pending : Table Cell Pending) (client seq : ℕ) : Type 0 where
    cell : Cell
    bytes : List ℕ
    write : IsWrite here.state setting.lines client seq cell bytes
    led : LedBy here.state n here.inc cell
    old : seq ≤ (w.clients client).seq
    still : IsOpen (w.clients client) seq
    before : done_by own client ≤ seq
    gone : at cell_cmp pending cell ≡ None

  ended_was : (op : Pending) (how : Ending) → HasEnded hears here own op how → Was own op.cell op
  ended_was _ _ (Is_declined op h is reserved put) = was_same own op.cell op is
  ended_was _ _ (Both_have op h is both stage) = was_same own op.cell op is
  ended_was _ _ (Alone_has now op taken alone stale put free) = was_taken own now op taken
  ended_was _ _ (Is_retired now op taken off) = was_taken own now op taken

  operation_over : (pending : Table Cell Pending) (op : Pending) → Was own op.cell op → op.kind ≡ kind.Write → at cell_cmp pending op.cell ≡ None
      → IsOver pending op.client op.seq
  operation_over pending op was write gone =
      let old = was.was in
      let e = was.same in
      let p = pending_here setting w scene.firm lives scene.rests asking scene.reports n op.cell old was.is (ap is_clients (e.kind ∙ write)) in
      let tied = asking.lived.tied n old.client in
      let unfinished = p.known.unfinished in
      let before : done_by own old.client ≤ old.seq = omega arith in
      record {
        cell = op.cell;
        bytes = old.bytes;
        write = rw (← e.client, ← e.seq) (write_now scene n op.cell old p);
        led = subst (λ i. LedBy here.state n i op.cell) ran_now (here_led setting w scene.firm lives n (asked_for op.cell old) old.rev p);
        old = rw (← e.client, ← e.seq) p.known.known.sent.old;
        still = rw (← e.client, ← e.seq) (open_running setting w scene.firm lives n (asked_for op.cell old) old.rev p ran_now runs);
        before = rw (← e.client, ← e.seq) before;
        gone = gone;
      }

  -- a job that is done with a request, or opens an operation, leaves another own
  module _ (new : PairState) (seat : IsSeat ⊎ (new ≡ own)) where
    full_seat : (want : Wanted) → IsNew hears here own want → (last : Finished) → last.seq ≡ want.seq
        → new.pairs.finished ≡ put nat_cmp own.pairs.finished want.client last → IsSeat
    full_seat want fresh last e is = elim seat [
      | inl seated ↦ seated
      | inr same ↦
          let now : done_by own want.client ≡ want.seq + 1 =
          sym (ap (λ (o : PairState). done_by o want.client) same) ∙ ap (λ t. done_to (at nat_cmp t want.client)) is
          ∙ ap done_to (at_same own.pairs.finished want.client last) ∙ ap (λ k. k + 1) e in
          let newer = fresh.newer in
          absurd (omega arith)
    ]

    over : (client : ℕ) (last : Finished) → IsFinishedFor hears here own new.pairs.pending client last
        → new.pairs.finished ≡ put nat_cmp own.pairs.finished client last → IsOver new.pairs.pending client last.seq
    over _ _ (Had_no_slot want fresh full gone) is =
        let k = wanted_known want fresh.wanted in
        let seated = full_seat want fresh _ refl is in
        record {
          cell = want.cell;
          bytes = want.bytes;
          write = write_here want k;
          led = record { seated = seated; leads = fresh.lead };
          old = k.sent.old;
          still = new_open want seated fresh;
          before = fresh.newer;
          gone = gone;
        }
    over _ _ (By_operation op how ended write gone) is = operation_over new.pairs.pending op (ended_was op how ended) write gone

    done_now : (client : ℕ) (last : Finished) → new.pairs.finished ≡ put nat_cmp own.pairs.finished client last → done_by new client ≡ last.seq + 1
    done_now client last is = ap (λ t. done_to (at nat_cmp t client)) is ∙ ap done_to (at_same own.pairs.finished client last)

    pub finished_tells : HasFinished hears here own new.pairs.finished new.pairs.pending → (c : ℕ)
        → (done_by new c ≡ done_by own c) ⊎ Ends setting w n new c
    finished_tells (None_new same) c = inl (ap (λ t. done_to (at nat_cmp t c)) same)
    finished_tells (Is_done client last why is) c =
        let o = over client last why is in
        let ends : Ends setting w n new client = record {
          seq = last.seq;
          cell = o.cell;
          bytes = o.bytes;
          write = o.write;
          runs = runs;
          still = o.still;
          old = o.old;
          before = o.before;
          after = done_now client last is;
          gone = o.gone;
        } in
        elim (same_or_apart c client) [
          | inl e ↦ inr (subst (λ i. Ends setting w n new i) (sym e) ends)
          | inr ne ↦ inl (ap (λ t. done_to (at nat_cmp t c)) is ∙ ap done_to (at_apart own.pairs.finished client last c ne))
        ]

    open_seat : (want : Wanted) → IsNew hears here own want → (op : Pending) → at cell_cmp new.pairs.pending want.cell ≡ Some op → IsSeat
    open_seat want fresh op there = elim seat [
      | inl seated ↦ seated
      | inr same ↦ none_some fresh.none (sym (ap (λ (o : PairState). at cell_cmp o.pairs.pending want.cell) same) ∙ there)
    ]

    pub pending_tells : (cell : Cell) (op : Pending) → at cell_cmp new.pairs.pending cell ≡ Some op → HasCome hears here own new.pairs.next cell op
        → is_clients op.kind ≡ true
        → Was own cell op ⊎ PendingHere setting w lives n (asked_for cell op) op.rev × (op.rev ≡ length own_log)
    pending_tells cell op there (Stood was) clients = inl was
    pending_tells cell op there (Is_new _ (For_a_fill moving fresh) e same le) clients = true_false clients (ap is_clients (sym same.kind))
    pending_tells cell op there (Is_new first (For_a_write want fresh) e same le) clients =
        let seated = open_seat want fresh op (ap (at cell_cmp new.pairs.pending) (sym e) ∙ there) in
        let p : PendingHere setting w lives n (asked_for want.cell op) op.rev =
        subst (λ (r : ℕ). PendingHere setting w lives n (asked_for want.cell op) r) same.rev
        (subst (λ (x : Wanted). PendingHere setting w lives n x here.state.rev) (same_want want.cell first op same) (new_pending want seated fresh)) in
        inr (subst (λ (q : Cell). PendingHere setting w lives n (asked_for q op) op.rev) (sym e) p, sym same.rev ∙ log_rev setting.servers own_log)

    -- ### What it says

    -- the read that is told that the new map has nothing is of a cell that is coming
    nothing_known : (client seq : ℕ) (cell : Cell) (epoch : ℕ) → ReadKnown setting (seen lives w) client seq cell epoch (length own_log)
        → coming here.state cell ≡ true → NothingKnown setting (seen lives w) client seq (length own_log)
    nothing_known client seq cell epoch k comes =
        let same : own_log ≡ k.at.prefix = own_prefix setting w scene.firm client n (length own_log) k.at refl in
        let there : coming (state_after setting.servers k.at.prefix) cell ≡ true =
        subst (λ log. coming (state_after setting.servers log) cell ≡ true) same comes in
        let plain = subst (HasProperTuples setting.servers) same (own_plain setting w scene.firm n) in
        let untold = coming_untold setting.servers k.at.prefix plain setting.lines client seq k.told cell epoch k.read there in
        record {
          cell = cell;
          epoch = epoch;
          at = k.at;
          read = subst (λ b. IsRead (state_after setting.servers k.at.prefix) setting.lines client seq b cell epoch) untold k.read;
          comes = there;
        }

    pub says_tells : (post : Post) → Says hears here own new post → S new post.to post.body
    says_tells _ (says.Refuses to said is busy held) = refusal_said new to said is.refused is.other
    says_tells _ (Shows_nothing client seq cell epoch may comes none of_read) =
        nothing_known client seq cell epoch (known_of setting w lives asking n _ may.asked) comes
    says_tells _ (Repeats want last same h lead is e) =
        let k = wanted_known want h in
        let number = e in
        let above : done_by own want.client ≡ last.seq + 1 = ap done_to is in
        let still : done_by new want.client ≡ done_by own want.client = ap (λ (o : PairState). done_by o want.client) same in
        ended_says new want.client want.seq last.ending (record {
          cell = want.cell;
          bytes = want.bytes;
          write = write_here want k;
          led = record { seated = used_seat (Has_finished want.client (omega arith)); leads = lead };
          old = k.sent.old;
          past = omega arith;
        })
    says_tells _ (says.Ends client last why is) =
        let o = over client last why is in
        let after = done_now client last is in
        ended_says new client last.seq last.ending
        (record { cell = o.cell; bytes = o.bytes; write = o.write; led = o.led; old = o.old; past = omega arith })
    says_tells _ (Ends_fill op ending.Written to ended is none so) = tt
    says_tells _ (Ends_fill op ending.Full to ended is none so) = tt
    says_tells post (Moves _ same next) = subst (λ (p : Post). S new p.to p.body) (sym next.is) tt
    says_tells post (Moves_on key row _ same h is next) = subst (λ (p : Post). S new p.to p.body) (sym next.is) tt
    says_tells post (says.Of_the_log _ logged) = nothing_said new post.to post.body (logged_untold (subject_of post.body) logged)
    says_tells _ _ = tt

  pub job_tells : (done : JobResult) → IsSeatedOrMute here own done → Did hears here own done → J done.own done.posts
  job_tells done seat d =
      let seated : IsSeat ⊎ (done.own ≡ own) = elim seat [ inl seated ↦ inl seated | inr apart ↦ inr apart.same ] in
      record {
        tells = record {
          finished = finished_tells done.own seated (did_finish hears here own done d);
          pending = λ cell op is. pending_tells done.own seated cell op is (did_come hears here own done d cell op is);
        };
        says = λ post i. says_tells done.own seated post (letters_of_job hears here own done d post i);
      }

  -- a ballot, and an entry that is applied, leave what the server leads
  pub kept_tells : (new : PairState) (posts : List Post) → new.pairs.pending ≡ own.pairs.pending → new.pairs.finished ≡ own.pairs.finished
      → ((post : Post) → In post posts → is_logged (subject_of post.body) ≡ true) → J new posts
  kept_tells new posts pending finished says = record {
    tells = record {
      finished = λ c. inl (ap (λ t. done_to (at nat_cmp t c)) finished);
      pending = λ cell op is clients. inl (was_same own cell op (ap (λ t. at cell_cmp t cell) (sym pending) ∙ is));
    };
    says = λ post i. nothing_said new post.to post.body (logged_untold (subject_of post.body) (says post i));
  }
