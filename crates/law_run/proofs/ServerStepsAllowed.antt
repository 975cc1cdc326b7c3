-- What the machine is told of a server's step is allowed, and keeps it tied to the world.
use Rattle.law_run.proofs.Imports.{[], ◌+◌, ◌||◌, ◌∙◌, ◌≡◌, ◌⊎◌, Acted, AreStepsFrom, Body, By_ballot, By_entry, By_job, By_read, Cell, Did, Ends, Fails}
use Rattle.law_run.proofs.Imports.{Goes, Handled, In, IsSeatedOrMute, Job, JobContext, JobResult, Letter, Line, List, Log, NeverRetired, None, Not_here}
use Rattle.law_run.proofs.Imports.{Option, PairState, Pairs, Pending, Plain, Post, Sender, Serving, Shows, Some, Stays, Store, StoresSo, Wakes, Worked, World}
use Rattle.law_run.proofs.Imports.{ap, at, awake, ballot_store, cell_cmp, chain_in, chosen_log, chosen_same, copying_on, crossed, did_stores, down_posts}
use Rattle.law_run.proofs.Imports.{false, in_none, inl, inr, is_some, is_under_way, letters_of, named_cell, own_place, owns_of, proposed_pairs, raised, refl}
use Rattle.law_run.proofs.Imports.{rev_of, said, sender, served_so, server_state, servers_of, settling, stamped, stopped_so, subst, sym, true, true_false}
use Rattle.law_run.proofs.Imports.{without_rev, ℕ}
use Rattle.law_run.proofs.GroundGives.{never_retired}
use Rattle.law_run.proofs.NotHere.{not_here_told}
use Rattle.law_run.proofs.ReadsShowContents.{AreUnchanged, data_of, show_told}
use Rattle.law_run.proofs.EventsOfServerSteps.{LooksTold, Next, ServerStep, ServerTold, ServesAt, after_step, kept_here, later_world, letters, new}
use Rattle.law_run.proofs.EventsOfServerSteps.{quiet_looks}
use Rattle.law_run.specs.WritesGoOn.{Onward}
use Rattle.law_run.proofs.ServerFrames.{AreKept, As_before, Anew, Runs, SaysOk, kept_own}
use Rattle.law_run.proofs.LogSteps.{IsOfKind, Of_the_log, Of_a_boot, Of_the_rest}
use Rattle.law_run.proofs.ReadsLookWhereSent.{is_looked, AreGrounded, who_accepts}
use Rattle.law_run.proofs.PutContents.{calm_told, joined_same, unchanged}
use Rattle.law_run.proofs.CountedPutsGiveBytes.{stored_told}
use Rattle.law_run.proofs.DataLetters.{IsUnended, is_written, did_says, downs_unended, glances_unended, logged_unended, mute_data, unended_no_data}
use Rattle.law_run.proofs.DataLetters.{unended_no_end}
use Rattle.law_run.proofs.ServerJobs.{did_job}
use Rattle.law_run.proofs.EventsPutTogether.{assembled}
use Rattle.law_run.proofs.LeavesTakeWrites.{votes_told}
use Rattle.petal_msg.specs.declared.body.Body.TheVariants as body
use Rattle.petal_msg.specs.declared.letter.Actor.TheVariants as actor

-- letters that end no request
module _ (this : ServerStep) (who : Sender) (posts : List Post) (is : letters this ≡ stamped this.stamp (letters_of who 0 posts))
    (unended : (post : Post) → In post posts → IsUnended post) where
  unended_says : (k : Plain) → SaysOk this k
  unended_says k letter h c seq to says still =
      true_false (ap is_written says)
      (unended_no_end who this.stamp posts unended letter (subst (In letter) is h))

  unended_looks : LooksTold this
  unended_looks = quiet_looks this (λ letter h. unended_no_data who this.stamp posts unended letter (subst (In letter) is h))

-- where nothing is under way on the block, nothing is pending
none_pending : (own : PairState) (cell : Cell) → is_under_way own cell ≡ false → at cell_cmp own.pairs.pending cell ≡ None
none_pending own cell free = by (at cell_cmp own.pairs.pending cell) free
  where
    by : (o : Option Pending) → is_some o || is_some (copying_on own cell) ≡ false → o ≡ None
    by None e = refl
    by (Some op) e = true_false refl e

module _ (at : ServesAt) where
  abbrev pub step_of : (acted : Acted) → Serving at.setting at.w at.n at.what acted → Next at acted → ServerStep
  step_of acted serving next = record { at = at; acted = acted; serving = serving; goes_on = next }

  abbrev here : JobContext
  here = own_place at.setting at.w at.n

  abbrev own : PairState
  own = owns_of at.w at.n

  abbrev hears : Body → Type 0
  hears = Handled at.w at.n

  abbrev downs : List Post
  downs = down_posts at.n (at.w.servers at.n).life.inc (servers_of (server_state at.setting at.w at.n))

  downs_end : (post : Post) → In post downs → IsUnended post
  downs_end = downs_unended at.n (at.w.servers at.n).life.inc (servers_of (server_state at.setting at.w at.n))

  module _ (numbered : (one other : Line) → In one at.setting.lines → In other at.setting.lines → one.number ≡ other.number → one ≡ other) where
    -- of the records that follow: the ground holds on the way, and they are legal
    pub record HasLater (v : World) : Type 0 where
      pub grounds : AreGrounded at.setting at.state v at.later
      pub legal : AreStepsFrom at.setting v at.later

    never : (at.w.servers at.n).life.running ≡ true → NeverRetired here own
    never =
        never_retired (record { setting = at.setting; state = at.state; w = at.w; firm = at.along.firm; ground = at.ground }) at.along.steady at.n

    abbrev IsSame : Acted → Type 0
    IsSame acted = chosen_log at.setting (after_step at acted) ≡ chosen_log at.setting at.w

    abbrev goes : Log → JobResult → List Job → Acted
    goes = served_so at.setting at.w at.n

    abbrev ends : Log → JobResult → Acted
    ends = stopped_so at.setting at.w at.n

    -- what is to be shown of a step that leaves this
    abbrev Told : Acted → Type 0
    Told acted = (serving : Serving at.setting at.w at.n at.what acted) (next : Next at acted) → IsSame acted → HasLater (after_step at acted)
        → ServerTold (step_of acted serving next)

    -- ### A job of the pairs

    -- where nothing is chosen and no chain changes, the contents are as before
    calm : (this : ServerStep) → chosen_log this.setting (later_world this) ≡ chosen_log this.setting this.w
        → (new this).store.chains ≡ (owns_of this.w this.n).store.chains → AreUnchanged this
    calm this same chains row there b epoch =
        let is = unchanged this same row there b
        (λ mine. ap (λ c. chain_in c (named_cell row b)) (kept_here this chains (joined_same this same this.n))) epoch in
        (is.has, is.bytes)

    -- the one letter of a job that answers a client
    abbrev letter_to : ℕ → Body → Letter
    letter_to client said = record {
      from = actor.Server at.n;
      inc = (at.w.servers at.n).life.inc;
      to = actor.Client client;
      rev = (server_state at.setting at.w at.n).rev;
      stamp = at.stamp;
      nth = 0;
      body = said;
    }

    module _ (log : Log) (runs : (at.w.servers at.n).life.running ≡ true) where
      job_looks : (done : JobResult) (did : Did hears here own done) (queue : List Job)
          (serving : Serving at.setting at.w at.n at.what (goes log done queue)) (next : Next at (goes log done queue)) → IsSame (goes log done queue)
          → HasLater (after_step at (goes log done queue)) → LooksTold (step_of (goes log done queue) serving next)
      unfolding In
      job_looks _ (By_read _ (Shows client seq cell epoch readable there)) queue serving next same later =
          let this = step_of _ serving next in
          let letter = letter_to client (body.Data seq (data_of this cell epoch)) in
          show_told this numbered runs client seq cell epoch readable there
          (λ lead. none_pending own cell (readable.idle lead)) letter refl refl refl same (calm this same refl)
          (λ number e. who_accepts at.setting at.state (later_world this) at.later later.grounds later.legal letter seq _ number (inl refl) refl e)
      job_looks _ (By_read _ (Not_here client seq cell epoch readable comes none)) queue serving next same later =
          let this = step_of _ serving next in
          let letter = letter_to client (body.NotHere seq) in
          not_here_told this numbered runs client seq cell epoch readable comes none
          (λ lead. none_pending own cell (readable.idle lead)) letter refl refl refl refl same (calm this same refl) later.grounds later.legal
      job_looks done d queue serving next same later =
          let this = step_of _ serving next in
          quiet_looks this (λ letter i.
          let s = said (sender here) at.stamp 0 done.posts letter i in
          ap is_looked s.body ∙ mute_data hears here own done d (λ of_read. of_read) s.post s.there)

      stores : (done : JobResult) → IsSeatedOrMute here own done → Did hears here own done → StoresSo hears here own done.own.store.chains
      stores = did_stores hears here own (never runs)

      job_told : (done : JobResult) → IsSeatedOrMute here own done → Did hears here own done → (queue : List Job) → Told (goes log done queue)
      job_told done seated did queue serving next same later =
          let this = step_of _ serving next in
          let says : (k : Plain) → Onward at.m k → SaysOk this k = λ k onward letter i c seq to says still.
          let s = said (sender here) at.stamp 0 done.posts letter i in
          did_says this k runs onward (never runs) done did s.post s.there c seq (sym s.to ∙ to) (sym s.body ∙ says) still in
          assembled this (stored_told this same runs says (stores done seated did)
          (λ k onward held. did_job this k runs onward (never runs) done did (stores done seated did) held refl))
          (job_looks done did queue serving next same later)

      -- the server stops once its commit is made
      job_stopped : (done : JobResult) → IsSeatedOrMute here own done → Did hears here own done → Told (ends log done)
      job_stopped done seated did serving next same later =
          let this = step_of _ serving next in
          let says : (k : Plain) → Onward at.m k → SaysOk this k = λ k onward. unended_says this (without_rev here) downs refl downs_end k in
          assembled this (stored_told this same runs says (stores done seated did)
          (λ k onward held. did_job this k runs onward (never runs) done did (stores done seated did) held refl))
          (unended_looks this (without_rev here) downs refl downs_end)

    -- ### Other steps

    -- a step that changes no chain, and ends no request
    calm_step : (acted : Acted) (serving : Serving at.setting at.w at.n at.what acted) (next : Next at acted) → IsSame acted
        → acted.server.own.store.chains ≡ own.store.chains → (Runs (step_of acted serving next) → AreKept (step_of acted serving next))
        → (who : Sender) (posts : List Post) → acted.letters ≡ letters_of who 0 posts → ((post : Post) → In post posts → IsUnended post)
        → ServerTold (step_of acted serving next)
    calm_step acted serving next same chains kept who posts letters_are unended =
        let this = step_of acted serving next in
        let is : letters this ≡ stamped at.stamp (letters_of who 0 posts) = ap (stamped at.stamp) letters_are in
        assembled this
        (calm_told this same chains (λ k onward. kept_own this k onward chains kept) (λ k onward. unended_says this who posts is unended k))
        (unended_looks this who posts is unended)

    -- a ballot and an entry that is applied leave the server's operations and chains, and end no request
    record Keeps (done : JobResult) : Type 0 where
      chains : done.own.store.chains ≡ own.store.chains
      finished : done.own.pairs.finished ≡ own.pairs.finished
      pending : done.own.pairs.pending ≡ own.pairs.pending
      unended : (post : Post) → In post done.posts → IsUnended post

    kept_by : (log : Log) (done : JobResult) → Worked at.setting at.w at.n log done
        → (IsSeatedOrMute here own done × Did hears here own done) ⊎ Keeps done
    kept_by _ _ (By_job log done applied did seat) = inl (seat, did)
    kept_by _ _ (By_ballot log started posts applied starts says) = inr (record {
      chains = ap (λ (s : Store). s.chains) (ballot_store here.state own started);
      finished = ap (λ (p : Pairs). p.finished) (proposed_pairs here.state own started);
      pending = ap (λ (p : Pairs). p.pending) (proposed_pairs here.state own started);
      unended = λ post i. logged_unended post.body (says post i);
    })
    kept_by _ _ (By_entry log entry more prefix) =
        let settled = settling here entry (crossed here.state entry own) in
        inr (record {
          chains = settled.chains;
          finished = ap (λ (p : Pairs). p.finished) settled.pairs;
          pending = ap (λ (p : Pairs). p.pending) settled.pairs;
          unended = λ post i. in_none post i;
        })

    rest_told : (acted : Acted) → Serving at.setting at.w at.n at.what acted → Told acted
    rest_told _ (Goes log done queue runs worked queued works) of_it next same later = elim (kept_by log done worked) [
      | inl job ↦ job_told log runs done job.0 job.1 queue of_it next same later
      | inr kept ↦ calm_step _ of_it next same kept.chains (λ on. As_before runs kept.finished kept.pending) (sender here) done.posts refl kept.unended
    ]
    rest_told _ (Ends log done runs worked) of_it next same later = elim (kept_by log done worked) [
      | inl job ↦ job_stopped log runs done job.0 job.1 of_it next same later
      | inr kept ↦ calm_step _ of_it next same kept.chains (λ on. As_before runs kept.finished kept.pending) (without_rev here) downs refl downs_end
    ]
    rest_told _ (Stays who posts from shown) of_it next same later =
        calm_step _ of_it next same refl (λ on. As_before on refl refl) who posts refl (λ post i. glances_unended post (shown post i))
    rest_told _ (Wakes booted asleep) of_it next same later =
        calm_step _ of_it next same refl (λ on. Anew refl)
        (record { from = actor.Server at.n; inc = (at.w.servers at.n).life.inc + 1; rev = rev_of (awake (raised (at.w.servers at.n))).log })
        downs refl downs_end
    rest_told _ (Fails booted asleep) of_it next same later =
        calm_step _ of_it next same refl (λ on. true_false on asleep) (without_rev here) [] refl (λ post i. in_none post i)

    -- a server that runs after the step ran before, or has nothing in memory
    serves_kept : (acted : Acted) (serving of_it : Serving at.setting at.w at.n at.what acted) (next : Next at acted)
        → acted.server.own.pairs ≡ own.pairs → Runs (step_of acted of_it next) → AreKept (step_of acted of_it next)
    serves_kept _ (Goes log done queue runs worked queued works) of_it next same on =
        As_before runs (ap (λ (p : Pairs). p.finished) same) (ap (λ (p : Pairs). p.pending) same)
    serves_kept _ (Ends log done runs worked) of_it next same on =
        As_before runs (ap (λ (p : Pairs). p.finished) same) (ap (λ (p : Pairs). p.pending) same)
    serves_kept _ (Stays who posts from shown) of_it next same on = As_before on refl refl
    serves_kept _ (Wakes booted asleep) of_it next same on = Anew refl
    serves_kept _ (Fails booted asleep) of_it next same on = true_false on asleep

    -- each kind of step
    pub step_told : (acted : Acted) (serving : Serving at.setting at.w at.n at.what acted) (next : Next at acted) → IsOfKind (at.w.servers at.n) acted
        → HasLater (after_step at acted) → ServerTold (step_of acted serving next)
    step_told acted serving next (Of_the_log store pairs quiet) later =
        votes_told (step_of acted serving next) (ap (λ (s : Store). s.chains) store) (serves_kept acted serving serving next pairs)
        (quiet at.stamp)
    step_told acted serving next (Of_a_boot chains none quiet) later =
        votes_told (step_of acted serving next) chains (λ on. Anew none) (quiet at.stamp)
    step_told acted serving next (Of_the_rest records) later =
        rest_told acted serving serving next (chosen_same at.setting at.w at.n at.stamp at.what acted records) later
