-- Each step of a server that is allowed keeps what is kept of two copies, by the stores that count.
use Rattle.law_copies.proofs.Imports.{[], if◌then◌else◌, ◌++◌, ◌==◌, ◌∙◌, ◌∷◌, ◌≡◌, ◌⊎◌, Acted, BeforeBlank, By_ballot, By_entry, By_job, Caught, Command}
use Rattle.law_copies.proofs.Imports.{Ends, Fails, Goes, In, IsPrefix, JobResult, Letter, List, Log, None, Option, PairState, Post, Sender, Server, Serving}
use Rattle.law_copies.proofs.Imports.{Setting, Some, Starts, Stays, Step, Store, Wakes, Worked, World, acts, ap, awake, before_blanks, blank_joins_in}
use Rattle.law_copies.proofs.Imports.{by_bool, chain_in, counted_by, crossed, false, has_mark, in-append, inl, inr, is_between, is_in, kept, kept_store}
use Rattle.law_copies.proofs.Imports.{letters_of, logged_apart, map, mark_on, own_place, post_of, prefix_itself, prefix_more, proposed, put_apart, put_same}
use Rattle.law_copies.proofs.Imports.{raised, refl, sender, served_so, server_state, settled_by, settling, shown_so, silent, stamped, start, state_in, stays}
use Rattle.law_copies.proofs.Imports.{stopped_so, subject_of, subst, sym, true, true_false, wakes, with_store, without_rev, world_after, ℕ}
use Rattle.law_copies.proofs.CopiesKnownOfWorlds.{OneMore, before_of}
use Rattle.law_copies.proofs.AtEntry.{at_entry}
use Rattle.law_copies.proofs.CopiesGround.{Ground}
use Rattle.law_copies.proofs.AtStep.{IsStep, at_step}
use Rattle.law_copies.proofs.LeftByEntry.{IsCrossed}
use Rattle.law_copies.proofs.FramesKeepPrefixes.{store_same}
use Rattle.law_copies.proofs.JobsAndBallotsKeep.{ballot_keeping, job_keeping}
use Rattle.law_copies.proofs.StepsLeaveCopies.{posts_mute}
use Rattle.law_copies.proofs.AtSeat.{AtSeat, IsAtWork}
use Rattle.law_copies.proofs.StepsKeepCopies.{GoesOn, IsMarkedOne, IsSoundOwn, IsTrue, sound_at, sound_part}
use Rattle.law_copies.proofs.VisitsAfterSteps.{IsThen, counted as reached_then, later, stored}
use Rattle.law_copies.proofs.AtJob.{AtJob, at_job, IsKeeping}
use Rattle.law_copies.proofs.WakingKeepsCopies.{woken_sound}
use Rattle.petal_msg.specs.declared.body.Body.TheVariants as body
use Rattle.law_copies.proofs.JobsKeepEachPrefix as jobs
use Rattle.law_copies.proofs.EntriesKeepCopies as entries
use Rattle.law_copies.proofs.StepsLeaveCopies as quiet

-- what a server that stops tells the others
all_down : (me inc : ℕ) (others : List ℕ) (post : Post) → In post (map (post_of (body.Down me inc)) others) → is_between (subject_of post.body) ≡ false
unfolding In
all_down me inc [] post h = absurd h
all_down me inc (n ∷ others) post (inl e) = ap (λ (p : Post). is_between (subject_of p.body)) e
all_down me inc (n ∷ others) post (inr h) = all_down me inc others post h

-- a server that is not In as itself starts no ballot for a Caught
out_ballot : (setting : Setting) (w : World) (k : ℕ) (o : Option Command) → Starts (own_place setting w k) (w.servers k).own o
    → is_in (server_state setting w k) k (w.servers k).life.inc ≡ false → proposed (server_state setting w k) (w.servers k).own o ≡ (w.servers k).own
out_ballot setting w k None starts out = refl
out_ballot setting w k (Some (Caught of link holder inc other other_inc)) starts out = true_false starts.seated out
out_ballot setting w k (Some _) starts out = refl

-- of two stores that are alike in this, the ones that count are so
kept_alike : {X : Type 0} (f : Store → X) (joins : ℕ) (o : Option BeforeBlank) (a b : Store) → f a ≡ f b → f (kept_store joins o a) ≡ f (kept_store joins o b)
kept_alike f joins None a b e = e
kept_alike f joins (Some before) a b e = by_bool (before.joins == joins)
    (λ t. ap (λ c. f (if c then before.store else a)) t ∙ sym (ap (λ c. f (if c then before.store else b)) t))
    (λ off. ap (λ c. f (if c then before.store else a)) off ∙ e ∙ sym (ap (λ c. f (if c then before.store else b)) off))

module _ (it : OneMore) where
  open it use {setting, records, w, known, good, own}
  open before_of it use {top, before}

  -- and the world then, by the stores that count by what was chosen before
  abbrev pub GoesTo : World → Type 0
  GoesTo v = world_after setting (start setting) (records ++ own ∷ []) ≡ v → GoesOn setting records top top before (counted_by setting top v) good own

  pub then_so : (v : World) → world_after setting (start setting) (records ++ own ∷ []) ≡ v → IsThen setting (records ++ own ∷ []) (counted_by setting top v)
  then_so v is = subst (λ u. IsThen setting (records ++ own ∷ []) (counted_by setting top u)) is (λ n. refl)

  at_work : (k : ℕ) → (w.servers k).life.running ≡ true → is_in (server_state setting w k) k (w.servers k).life.inc ≡ true
      → IsAtWork setting w (kept setting w) k
  at_work k runs seat = record {
    runs = runs;
    seat = seat;
    real = known.real k runs seat (w.servers k).own.store;
    counts = known.counts k (w.servers k).log.applied (known.firm.servers k) seat;
  }

  abbrev ground : Ground
  ground = record { setting = setting; records = records; w = w; stores = kept setting w; good = good; firm = known.firm; rests = known.rests }

  abbrev seated : (k : ℕ) → (w.servers k).life.running ≡ true → is_in (server_state setting w k) k (w.servers k).life.inc ≡ true → AtSeat
  seated k runs seat = record { ground = ground; k = k; works = at_work k runs seat }

  no_posts : (post : Post) → In post [] → is_between (subject_of post.body) ≡ false
  unfolding In
  no_posts post i = absurd i

  -- ### A step of a server

  module _ (k stamp : ℕ) (what : Step) (acted : Acted) (unblanked : before_blanks what setting w k ≡ w.before_blank) where
    abbrev then_world : World
    then_world = (acts setting w k what stamp acted).world

    abbrev v : World
    v = counted_by setting top then_world

    -- the store that counts, where this one is the server's
    abbrev kept_here : Store → Store
    kept_here store = kept_store (blank_joins_in setting top k) (w.before_blank k) store

    abbrev server : Server
    server = with_store acted.server (kept_here acted.server.own.store)

    was_blank : (n : ℕ) → v.before_blank n ≡ None → before.before_blank n ≡ None
    was_blank n none = ap (λ f. f n) (sym unblanked) ∙ none

    step_of : IsPrefix (w.servers k).log.applied acted.server.log.applied → IsPrefix acted.server.log.applied top → IsStep setting top before v k server
    step_of onward within = record {
      here = λ i. with_store (put_same w.servers k acted.server i)
          (kept_store (blank_joins_in setting top k) (unblanked i k) (put_same w.servers k acted.server i).own.store);
      others = λ n ne. λ i. with_store (put_apart w.servers k acted.server n ne i)
          (kept_store (blank_joins_in setting top n) (unblanked i n) (put_apart w.servers k acted.server n ne i).own.store);
      plain = known.firm.plain;
      before = known.firm.servers;
      onward = onward;
      within = within;
      blanks = was_blank;
    }

    same_step : acted.server.log.applied ≡ (w.servers k).log.applied → IsStep setting top before v k server
    same_step applied =
        step_of (subst (IsPrefix (w.servers k).log.applied) (sym applied) (prefix_itself (w.servers k).log.applied))
        (subst (λ f. IsPrefix f top) (sym applied) (known.firm.servers k))

    -- each letter was sent before, or in this step
    sent_by : (P : Letter → Type 0) → ((letter : Letter) → In letter (stamped stamp acted.letters) → P letter) → (letter : Letter) → In letter v.sent
        → In letter w.sent ⊎ P letter
    sent_by P new letter i = elim (in-append letter (stamped stamp acted.letters) w.sent i) [ inl n ↦ inr (new letter n) | inr old ↦ inl old ]

    abbrev IsTold : IsStep setting top before v k server → Letter → Type 0
    IsTold step = IsTrue setting top (stored (at_step good step)) (later (at_step good step))
        (reached_then (at_step good step))

    -- its letters speak neither of pairs nor of copies
    mute_letters : (step : IsStep setting top before v k server) (who : Sender) (posts : List Post) → acted.letters ≡ letters_of who 0 posts
        → ((post : Post) → In post posts → is_between (subject_of post.body) ≡ false) → (letter : Letter) → In letter v.sent
        → In letter w.sent ⊎ IsTold step letter
    mute_letters step who posts is mute = sent_by (IsTold step) (λ letter i.
        posts_mute setting top (stored (at_step good step)) (later (at_step good step))
        (reached_then (at_step good step)) who stamp posts mute letter (subst (λ letters. In letter (stamped stamp letters)) is i))

    -- the server's own part is as it was, and it does not run where it did not
    module _ (own_same : acted.server.own ≡ (w.servers k).own) (applied : acted.server.log.applied ≡ (w.servers k).log.applied)
        (ran : acted.server.life.running ≡ true → (w.servers k).life.running ≡ true) where
      counts_same : server.own ≡ (before.servers k).own
      counts_same = ap (λ (o : PairState). record o { store = kept_here o.store }) own_same

      same_sound : IsSoundOwn setting v k server
      same_sound = sound_at setting.servers (w.servers k).log.applied acted.server.log.applied (before.servers k).own server.own applied counts_same
          (sound_part {marked = IsMarkedOne v k server} good k
          (λ when. elim when [ inl runs ↦ inl (ran runs) | inr none ↦ inr (was_blank k none) ]))

      -- and it says nothing of pairs or copies
      quiet_goes : acted.server.life.inc ≡ (w.servers k).life.inc → (who : Sender) (posts : List Post) → acted.letters ≡ letters_of who 0 posts
          → ((post : Post) → In post posts → is_between (subject_of post.body) ≡ false) → GoesTo then_world
      quiet_goes inc who posts is mute then_is =
          let step = same_step applied in
          quiet.quiet_good (at_step good step)
          (quiet.same_visits (at_step good step) counts_same applied inc)
          (λ cell alive. store_same (before.servers k).own.store server.own.store cell (ap (λ (o : PairState). o.store) counts_same))
          own (then_so then_world then_is) same_sound (mute_letters step who posts is mute)

    -- a server that is not In as itself then, with its blocks and marks as they were
    module _ (out : is_in (state_in setting.servers acted.server.log) k acted.server.life.inc ≡ false)
        (step : IsStep setting top before v k server) (chains : acted.server.own.store.chains ≡ (w.servers k).own.store.chains)
        (marks : acted.server.own.store.marks ≡ (w.servers k).own.store.marks) (sound : IsSoundOwn setting v k server) where
      out_goes : (who : Sender) (posts : List Post) → acted.letters ≡ letters_of who 0 posts
          → ((post : Post) → In post posts → is_between (subject_of post.body) ≡ false) → GoesTo then_world
      out_goes who posts is mute then_is =
          let joins = blank_joins_in setting top k in
          let same = kept_alike (λ (s : Store). s.chains) joins (w.before_blank k) acted.server.own.store (w.servers k).own.store chains in
          let marks_same = kept_alike (λ (s : Store). s.marks) joins (w.before_blank k) acted.server.own.store (w.servers k).own.store marks in
          quiet.quiet_good (at_step good step)
          (quiet.out_visits (at_step good step) out)
          (λ cell alive. record { chain = ap (λ t. chain_in t cell) same; marks = λ kind. ap (λ ms. has_mark (mark_on kind cell) ms) marks_same })
          own (then_so then_world then_is) sound (mute_letters step who posts is mute)

    -- it sends what its work says; or it stops, and none of its letters is of pairs or copies
    data Sends (done : JobResult) : Type 0 where
      Of_job : acted.letters ≡ letters_of (sender (own_place setting w k)) 0 done.posts → Sends done
      Of_stop : (who : Sender) (posts : List Post) → acted.letters ≡ letters_of who 0 posts
          → ((post : Post) → In post posts → is_between (subject_of post.body) ≡ false) → Sends done

    quiet_says : (done : JobResult) → ((post : Post) → In post done.posts → is_between (subject_of post.body) ≡ false) → Sends done
        → ((who : Sender) (posts : List Post) → acted.letters ≡ letters_of who 0 posts
        → ((post : Post) → In post posts → is_between (subject_of post.body) ≡ false) → GoesTo then_world) → GoesTo then_world
    quiet_says done mute (Of_job is) goes = goes (sender (own_place setting w k)) done.posts is mute
    quiet_says done mute (Of_stop who posts is quiet) goes = goes who posts is quiet

    -- a server that is In as itself does a job, or starts a ballot
    module _ (runs : (w.servers k).life.running ≡ true) (seat : is_in (server_state setting w k) k (w.servers k).life.inc ≡ true) (done : JobResult)
        (keeping : IsKeeping setting w k done) (own_is : acted.server.own ≡ done.own) (applied : acted.server.log.applied ≡ (w.servers k).log.applied)
        (inc : acted.server.life.inc ≡ (w.servers k).life.inc) where
      abbrev the_job : AtJob
      the_job = at_job ground (record {
        step = same_step applied;
        works = at_work k runs seat;
        keeping = keeping;
        own_is = ap (λ (s : Store). record acted.server.own { store = s }) (known.real k runs seat acted.server.own.store) ∙ own_is;
        applied = applied;
        inc = inc;
      }) known.started

      job_goes : ((letter : Letter) → In letter (stamped stamp acted.letters) → IsTold (same_step applied) letter) → GoesTo then_world
      job_goes told then_is =
          jobs.job_good the_job own (then_so then_world then_is)
          (sent_by (IsTold (same_step applied)) told)

      -- its letters go; or it stops, and tells the others that
      job_says : Sends done → GoesTo then_world
      job_says (Of_job is) = job_goes (λ letter i. jobs.sends the_job stamp letter (subst (λ letters. In letter (stamped stamp letters)) is i))
      job_says (Of_stop who posts is mute) = job_goes (λ letter i.
          let step = same_step applied in
          posts_mute setting top (stored (at_step good step)) (later (at_step good step))
          (reached_then (at_step good step)) who stamp posts mute letter
          (subst (λ letters. In letter (stamped stamp letters)) is i))

    -- it applies an entry
    module _ (runs : (w.servers k).life.running ≡ true) (entry : Command) (more : acted.server.log.applied ≡ (w.servers k).log.applied ++ entry ∷ [])
        (within : IsPrefix acted.server.log.applied top)
        (own_is : acted.server.own ≡ settled_by (own_place setting w k) entry (crossed (server_state setting w k) entry (w.servers k).own))
        (inc : acted.server.life.inc ≡ (w.servers k).life.inc) where
      entry_step : IsStep setting top before v k server
      entry_step = step_of (subst (IsPrefix (w.servers k).log.applied) (sym more) (prefix_more (w.servers k).log.applied entry)) within

      entry_left : IsCrossed (server_state setting w k) entry (before.servers k).own server.own
      entry_left =
          let joins = blank_joins_in setting top k in
          let settles = settling (own_place setting w k) entry (crossed (server_state setting w k) entry (w.servers k).own) in
          record {
            pairs = ap (λ (o : PairState). o.pairs) own_is ∙ settles.pairs;
            copies = ap (λ (o : PairState). o.copies) own_is ∙ settles.copies;
            chains = kept_alike (λ (s : Store). s.chains) joins (w.before_blank k) acted.server.own.store (w.servers k).own.store
                (ap (λ (o : PairState). o.store.chains) own_is ∙ settles.chains);
            marks = kept_alike (λ (s : Store). s.marks) joins (w.before_blank k) acted.server.own.store (w.servers k).own.store
                (ap (λ (o : PairState). o.store.marks) own_is ∙ settles.marks);
          }

      entry_goes : (who : Sender) (posts : List Post) → acted.letters ≡ letters_of who 0 posts
          → ((post : Post) → In post posts → is_between (subject_of post.body) ≡ false) → GoesTo then_world
      entry_goes who posts is mute then_is =
          entries.entered_good (at_entry ground (record {
            step = entry_step;
            runs = runs;
            more = more;
            left = entry_left;
            inc = inc;
            counts = λ seat. known.counts k acted.server.log.applied within (ap (is_in (state_in setting.servers acted.server.log) k) (sym inc) ∙ seat);
          }))
          own (then_so then_world then_is) (mute_letters entry_step who posts is mute)

    -- what a running server does
    worked_goes : (log : Log) (done : JobResult) → (w.servers k).life.running ≡ true → Worked setting w k log done → acted.server.own ≡ done.own
        → acted.server.log.applied ≡ log.applied → acted.server.life.inc ≡ (w.servers k).life.inc → Sends done → GoesTo then_world
    worked_goes _ _ runs (By_job log done same did (inl seat)) own_is applied inc sends =
        job_says runs seat done (job_keeping (seated k runs seat) done did) own_is (applied ∙ same) inc sends
    worked_goes _ _ runs (By_job log done same did (inr apart)) own_is applied inc sends =
        quiet_says done apart.mute sends (quiet_goes (own_is ∙ apart.same) (applied ∙ same) (λ on. runs) inc)
    worked_goes _ _ runs (By_ballot log started posts same starts logged) own_is applied inc sends =
        let done : JobResult = record { own = proposed (server_state setting w k) (w.servers k).own started; posts = posts; jobs = [] } in
        by_bool (is_in (server_state setting w k) k (w.servers k).life.inc)
        (λ seat. job_says runs seat done (ballot_keeping (seated k runs seat) started posts starts logged) own_is (applied ∙ same) inc sends)
        (λ out. quiet_says done (λ post i. logged_apart (subject_of post.body) (logged post i)) sends
        (quiet_goes (own_is ∙ out_ballot setting w k started starts out) (applied ∙ same) (λ on. runs) inc))
    worked_goes _ _ runs (By_entry log entry more prefix) own_is applied inc sends =
        let left = settled_by (own_place setting w k) entry (crossed (server_state setting w k) entry (w.servers k).own) in
        quiet_says (silent left) no_posts sends (entry_goes runs entry (applied ∙ more) (subst (λ f. IsPrefix f top) (sym applied) prefix) own_is inc)

  pub server_goes : (k stamp : ℕ) (what : Step) (acted : Acted) → before_blanks what setting w k ≡ w.before_blank → Serving setting w k what acted
      → GoesTo (acts setting w k what stamp acted).world
  server_goes k stamp what _ unblanked (Goes log done queue runs worked queued works) =
      worked_goes k stamp what (served_so setting w k log done queue) unblanked log done runs worked refl refl refl (Of_job refl)
  server_goes k stamp what _ unblanked (Ends log done runs worked) =
      worked_goes k stamp what (stopped_so setting w k log done) unblanked log done runs worked refl refl refl
      (Of_stop (without_rev (own_place setting w k)) _ refl (all_down k (w.servers k).life.inc _))
  server_goes k stamp what _ unblanked (Stays who posts from shown) =
      quiet_goes k stamp what (shown_so w k who posts) unblanked refl refl (λ on. on) refl who posts refl (λ post i. ap is_between (shown post i))
  server_goes k stamp what _ unblanked (Wakes booted asleep) =
      let woken = awake (raised (w.servers k)) in
      let acted = wakes (own_place setting w k) woken in
      let wake = known.wake k in
      out_goes k stamp what acted unblanked wake.out (step_of k stamp what acted unblanked wake.onward wake.chosen) refl refl
      (woken_sound it (v k stamp what acted unblanked) k (server k stamp what acted unblanked)
      (step_of k stamp what acted unblanked wake.onward wake.chosen) refl refl
      (kept_alike (λ (s : Store). s.chains) (blank_joins_in setting top k) (w.before_blank k) woken.own.store (w.servers k).own.store refl)
      (kept_alike (λ (s : Store). s.marks) (blank_joins_in setting top k) (w.before_blank k) woken.own.store (w.servers k).own.store refl)) _ _ refl
      (all_down k (w.servers k).life.inc _)
  server_goes k stamp what _ unblanked (Fails booted asleep) =
      let acted = stays (raised (w.servers k)) in
      out_goes k stamp what acted unblanked (known.next k) (same_step k stamp what acted unblanked refl) refl refl
      (same_sound k stamp what acted unblanked refl refl (λ on. on)) (sender (own_place setting w k)) [] refl no_posts
