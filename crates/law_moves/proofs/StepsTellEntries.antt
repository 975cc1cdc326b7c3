-- What a step of a history may have done to each server, and which letters it sent that tell of entries.
use Rattle.law_moves.proofs.Imports.{[], ◌++◌, ◌+◌, ◌∙◌, ◌∷◌, ◌≡◌, ◌≢◌, ◌≤◌, ◌⊎◌, Acted, AreSteps, Aside, At, BeforeBlank, Blanks, Bool, By_ballot, By_entry}
use Rattle.law_moves.proofs.Imports.{By_job, Caught, Command, Did, Ends, Fails, Firm, Goes, Good, Handled, Happens, In, IsPrefix, IsSeatedOrMute, IsSound}
use Rattle.law_moves.proofs.Imports.{JobResult, Join, Key, Letter, LinkId, LinkRow, List, Log, None, Of_job, OneMore, Option, PairState, Pairs, Post, Record}
use Rattle.law_moves.proofs.Imports.{Script, Server, Serves, Serving, Some, State, Stays, Step, Store, Table, Turns, Wakes, Was_sent, Worked, World, after}
use Rattle.law_moves.proofs.Imports.{all_put, always_firm, ap, arith, aside_none, at, at-where, awake, ballot_store, before_last, below_itself}
use Rattle.law_moves.proofs.Imports.{blank_joins_in, blanked, by_bool, by_settled, chosen_log, chosen_state, cond, counted_by, crossed, ends_of, entry_after}
use Rattle.law_moves.proofs.Imports.{false, filter, first_incs, good_after, happens_sent, history_grows, history_is_firm, holds_link, in_former, inl, inr}
use Rattle.law_moves.proofs.Imports.{is_eq, is_in, is_of_entries, is_some, join_was_wanted, kept, last_happens, length, link_cmp, link_named, log_rev, longer}
use Rattle.law_moves.proofs.Imports.{none_some, own_place, prefix_itself, prefix_more, prefix_on, prefix_plain, prefix_same, proposed, proposed_pairs}
use Rattle.law_moves.proofs.Imports.{put_apart, put_at, put_same, raised, refl, run_of, same_id, same_or_apart, server_state, settling, since, state_after}
use Rattle.law_moves.proofs.Imports.{step_goes, subject_of, subst, sym, true, true_false, who_is_in, ℕ}

holds_filled : (own : PairState) (o : Option LinkRow) → (holds_link own o).filled ≡ own.filled
holds_filled own None = refl
holds_filled own (Some row) = refl

proposed_filled : (state : State) (own : PairState) (o : Option Command) → (proposed state own o).filled ≡ own.filled
proposed_filled state own (Some (Caught of link holder inc other other_inc)) = holds_filled own (link_named state (record { map = of; link = link }))
proposed_filled state own (Some _) = refl
proposed_filled state own None = refl

-- what stands among the links that are left stood there
was_at : (t : Table LinkId Key) (test : LinkId → Bool) (id : LinkId) (key : Key) → at link_cmp (filter (λ row. test row.0) t) id ≡ Some key
    → at link_cmp t id ≡ Some key
was_at t test id key is =
    let e = at-where link_cmp t test id (λ other tie. ap test (sym (same_id id other (ap is_eq tie)))) in
    by_bool (test id) (λ on. sym (e ∙ ap (λ b. cond b (at link_cmp t id) None) on) ∙ is)
    (λ off. none_some (e ∙ ap (λ b. cond b (at link_cmp t id) None) off) is)

module _ (it : OneMore) where
  open it use {prior, prior.{script, sound, records as prefix}, own, legal}
  open ends_of it use {setting, w, v, records}

  pub knows : Firm setting w
  knows = history_is_firm script prefix sound prior.legal

  pub knows_now : Firm setting v
  knows_now = history_is_firm script records sound legal

  pub chosen_on : IsPrefix (chosen_log setting w) (chosen_log setting v)
  chosen_on = history_grows script records sound legal prefix (own ∷ []) refl

  pub mine_top : (n : ℕ) → IsPrefix (w.servers n).log.applied (chosen_log setting w)
  mine_top n = knows.servers n

  pub mine_whole : (n : ℕ) → IsPrefix (w.servers n).log.applied (chosen_log setting v)
  mine_whole n = prefix_on (w.servers n).log.applied (chosen_log setting w) (chosen_log setting v) (mine_top n) chosen_on

  -- what is kept of two copies by what was chosen before the step
  pub middle : Good setting records (chosen_log setting w) (counted_by setting (chosen_log setting w) v)
  middle = (step_goes script prefix own sound legal (good_after script prefix sound prior.legal)).middle

  abbrev Was : ℕ → Server
  Was n = w.servers n

  -- ### Servers

  -- a job that applies no entry
  pub record IsJob (n : ℕ) (to : Server) : Type 0 where
    pub done : JobResult
    pub runs : (Was n).life.running ≡ true
    pub did : Did (Handled w n) (own_place setting w n) (Was n).own done
    pub seat : IsSeatedOrMute (own_place setting w n) (Was n).own done
    pub own_is : to.own ≡ done.own
    pub log_is : to.log.applied ≡ (Was n).log.applied
    pub inc_is : to.life.inc ≡ (Was n).life.inc

  -- what the server follows as a second one stays, or goes with the cells that an entry ends for it
  pub data KeepsLast (n : ℕ) (to : Server) : Type 0 where
    Same_last : to.own.pairs.last ≡ (Was n).own.pairs.last → KeepsLast n to
    Crosses : (entry : Command) → to.log.applied ≡ (Was n).log.applied ++ entry ∷ []
        → to.own.pairs.last ≡ (crossed (server_state setting w n) entry (Was n).own).pairs.last → KeepsLast n to

  -- what stays of a server that does no job: it is as it was, or has stopped; it started a ballot or applied an entry, and may have stopped then; or it
  -- does not run, and only its incarnation was raised
  pub record IsKept (n : ℕ) (to : Server) : Type 0 where
    pub how : (to ≡ Was n) ⊎ ((Was n).life.running ≡ true) ⊎ (to ≡ raised (Was n))
    pub runs : to.life.running ≡ true → ((Was n).life.running ≡ true) × (to.life.inc ≡ (Was n).life.inc)
    pub rises : (Was n).life.inc ≤ to.life.inc
    pub onward : IsPrefix (Was n).log.applied to.log.applied
    pub within : IsPrefix to.log.applied (chosen_log setting w)
    pub pending : to.own.pairs.pending ≡ (Was n).own.pairs.pending
    pub chains : to.own.store.chains ≡ (Was n).own.store.chains
    pub filled : (id : LinkId) (key : Key) → at link_cmp to.own.filled id ≡ Some key → at link_cmp (Was n).own.filled id ≡ Some key
    pub last : KeepsLast n to

  -- what a server has become: it is kept so; it did a job, and may have stopped then; or it runs as its next incarnation, with nothing in memory
  pub data HasGone (n : ℕ) (to : Server) : Type 0 where
    Keeps : IsKept n to → HasGone n to
    Works : IsJob n to → HasGone n to
    Awakes : (Was n).life.running ≡ false → to ≡ awake (raised (Was n)) → HasGone n to

  rests : (n : ℕ) (to : Server) → to ≡ Was n → HasGone n to
  rests n to same = subst (HasGone n) (sym same) (Keeps (record {
    how = inl refl;
    runs = λ on. (on, refl);
    rises = omega arith;
    onward = prefix_itself (Was n).log.applied;
    within = mine_top n;
    pending = refl;
    chains = refl;
    filled = λ id key is. is;
    last = Same_last refl;
  }))

  worked : (n : ℕ) (log : Log) (done : JobResult) (to : Server) → (Was n).life.running ≡ true → to.own ≡ done.own → to.log.applied ≡ log.applied
      → to.life.inc ≡ (Was n).life.inc → Worked setting w n log done → HasGone n to
  worked n _ _ to runs own_is log_is inc_is (By_job log done same did seat) =
      Works (record { done = done; runs = runs; did = did; seat = seat; own_is = own_is; log_is = log_is ∙ same; inc_is = inc_is })
  worked n _ _ to runs own_is log_is inc_is (By_ballot log started posts same starts says) =
      let state = server_state setting w n in
      let pairs = ap (λ (o : PairState). o.pairs) own_is ∙ proposed_pairs state (Was n).own started in
      Keeps (record {
        how = inr (inl runs);
        runs = λ on. (runs, inc_is);
        rises = omega arith;
        onward = prefix_same (Was n).log.applied to.log.applied (log_is ∙ same);
        within = subst (λ l. IsPrefix l (chosen_log setting w)) (sym (log_is ∙ same)) (mine_top n);
        pending = ap (λ (p : Pairs). p.pending) pairs;
        chains = ap (λ (o : PairState). o.store.chains) own_is ∙ ap (λ (s : Store). s.chains) (ballot_store state (Was n).own started);
        filled = λ id key is.
            ap (λ t. at link_cmp t id) (sym (ap (λ (o : PairState). o.filled) own_is ∙ proposed_filled state (Was n).own started)) ∙ is;
        last = Same_last (ap (λ (p : Pairs). p.last) pairs);
      })
  worked n _ _ to runs own_is log_is inc_is (By_entry log entry more onward) =
      let here = own_place setting w n in
      let over = crossed here.state entry (Was n).own in
      let settled = settling here entry over in
      let filled : to.own.filled ≡ over.filled =
      ap (λ (o : PairState). o.filled) own_is ∙ by_settled (λ (o : PairState). o.filled ≡ over.filled) here entry over (λ store. refl) in
      Keeps (record {
        how = inr (inl runs);
        runs = λ on. (runs, inc_is);
        rises = omega arith;
        onward = subst (IsPrefix (Was n).log.applied) (sym (log_is ∙ more)) (prefix_more (Was n).log.applied entry);
        within = subst (λ l. IsPrefix l (chosen_log setting w)) (sym log_is) onward;
        pending = ap (λ (o : PairState). o.pairs.pending) own_is ∙ ap (λ (p : Pairs). p.pending) settled.pairs;
        chains = ap (λ (o : PairState). o.store.chains) own_is ∙ settled.chains;
        filled = λ id key is.
            was_at (Was n).own.filled (λ i. is_some (link_named (entry_after here.state entry) i)) id key (ap (λ t. at link_cmp t id) (sym filled) ∙ is);
        last = Crosses entry (log_is ∙ more) (ap (λ (o : PairState). o.pairs.last) own_is ∙ ap (λ (p : Pairs). p.last) settled.pairs);
      })

  serving : (n : ℕ) (what : Step) (acted : Acted) → Serving setting w n what acted → HasGone n acted.server
  serving n what _ (Goes log done queue runs works queued how) = worked n log done _ runs refl refl refl works
  serving n what _ (Ends log done runs works) = worked n log done _ runs refl refl refl works
  serving n what _ (Stays who posts from shown) = rests n (Was n) refl
  serving n what _ (Wakes booted asleep) = Awakes asleep refl
  serving n what _ (Fails booted asleep) = Keeps (record {
    how = inr (inr refl);
    runs = λ on. true_false on asleep;
    rises = omega arith;
    onward = prefix_itself (Was n).log.applied;
    within = mine_top n;
    pending = refl;
    chains = refl;
    filled = λ id key is. is;
    last = Same_last refl;
  })

  abbrev blank_of : ℕ → BeforeBlank
  blank_of n = record { joins = blank_joins_in setting (chosen_log setting w) n; store = kept setting w n }

  -- a server's device is as it was but for what the server did, or was made blank
  pub data HasStore (n : ℕ) (to : Server) (before : Option BeforeBlank) : Type 0 where
    Goes_on : HasGone n to → before ≡ w.before_blank n → HasStore n to before
    Is_bare : (Was n).life.running ≡ false → to ≡ blanked (Was n) → before ≡ Some (blank_of n) → HasStore n to before

  stores_by : (state : State) (u : World) → Happens setting state w u → (n : ℕ) → HasStore n (u.servers n) (u.before_blank n)
  stores_by state _ (Serves k stamp what acted lt within unblanked serves) n =
      Goes_on (all_put w.servers k acted.server HasGone (λ i. rests i (Was i) refl) (serving k what acted serves) n)
      (ap (λ (b : ℕ → Option BeforeBlank). b n) unblanked)
  stores_by state _ (Blanks k stamp lt within asleep) n = elim (same_or_apart n k) [
    | inl e ↦ Is_bare (ap (λ i. (w.servers i).life.running) e ∙ asleep)
        (subst (λ i. put_at w.servers k (blanked (w.servers k)) i ≡ blanked (w.servers i)) (sym e) (put_same w.servers k (blanked (w.servers k))))
        (subst (λ i. put_at w.before_blank k (Some (blank_of k)) i ≡ Some (blank_of i)) (sym e) (put_same w.before_blank k (Some (blank_of k))))
    | inr ne ↦ Goes_on (rests n _ (put_apart w.servers k (blanked (w.servers k)) n ne)) (put_apart w.before_blank k (Some (blank_of k)) n ne)
  ]
  stores_by state _ (Turns c stamp in_call reacted lt within turned onward) n = Goes_on (rests n (Was n) refl) refl

  happened : Happens setting (chosen_state setting v) w v
  happened =
      let state = chosen_state setting v in
      last_happens script prefix own (always_firm script records sound legal) legal state (below_itself state)

  pub gone : (n : ℕ) → HasStore n (v.servers n) (v.before_blank n)
  gone = stores_by (chosen_state setting v) v happened

  -- ### Letters

  -- a letter that tells of entries, or of a pair, is of a job
  pub record IsPosted (letter : Letter) : Type 0 where
    pub n : ℕ
    pub to : Server
    pub is : v.servers n ≡ to
    pub job : IsJob n to
    pub post : Post
    pub there : In post job.done.posts
    pub body : letter.body ≡ post.body
    pub rev : letter.rev ≡ length (Was n).log.applied
    pub others : (m : ℕ) → m ≢ n → v.servers m ≡ Was m

  pub data IsSent (letter : Letter) : Type 0 where
    Before : In letter w.sent → IsSent letter
    Posted : IsPosted letter → IsSent letter
    Other : is_of_entries (subject_of letter.body) ≡ false → IsSent letter

  pub sent : (letter : Letter) → In letter v.sent → IsSent letter
  sent letter i = elim (happens_sent setting (chosen_state setting v) w v happened letter i) [
    | Was_sent old ↦ Before old
    | Of_job n stamp what acted job now others ↦ Posted (record {
      n = n;
      to = acted.server;
      is = now;
      job = record {
        done = job.done;
        runs = job.runs;
        did = job.did;
        seat = job.seat;
        own_is = ap (λ (a : Acted). a.server.own) job.acted_is;
        log_is = ap (λ (a : Acted). a.server.log.applied) job.acted_is ∙ job.same;
        inc_is = ap (λ (a : Acted). a.server.life.inc) job.acted_is;
      };
      post = job.post;
      there = job.there;
      body = job.body;
      rev = job.rev ∙ log_rev script.servers (Was n).log.applied;
      others = others;
    })
    | Aside apart ↦ Other (aside_none (subject_of letter.body) apart)
  ]

-- ### Incarnations

-- they only rise
incs_up : (script : Script) → IsSound script → (n inc : ℕ) (before later : List Record) → AreSteps script (before ++ later)
    → inc ≤ ((At script before).servers n).life.inc → inc ≤ ((At script (before ++ later)).servers n).life.inc
incs_up script sound n inc before later legal le =
    since (λ run. inc ≤ ((after run).servers n).life.inc) (λ it le. by it ((after (longer it)).servers n) _ (gone it n) le)
    (run_of script sound (before ++ later) legal) before later refl (λ part. le)
  where
    by : (it : OneMore) (to : Server) (b : Option BeforeBlank) → HasStore it n to b → inc ≤ ((after it.prior).servers n).life.inc → inc ≤ to.life.inc
    by it to b (Goes_on (Keeps kept) same) le = let up = kept.rises in omega arith
    by it to b (Goes_on (Works job) same) le = let e = job.inc_is in omega arith
    by it to b (Goes_on (Awakes asleep is) same) le = subst (λ (s : Server). inc ≤ s.life.inc) (sym is) (omega arith)
    by it to b (Is_bare asleep bare same) le = subst (λ (s : Server). inc ≤ s.life.inc) (sym bare) le

module _ (it : OneMore) where
  open it use {prior, prior.{script, sound, records as prefix}, own, legal}
  open ends_of it use {setting as this, w as old, v as new, records}

  -- an incarnation that has joined had begun before the step
  begun_before : (n inc : ℕ) (blank : Bool) → In (Join n inc blank) (chosen_log this new) → inc ≤ (old.servers n).life.inc
  begun_before n inc blank i =
      let was = join_was_wanted script records sound legal n inc blank i in
      let rest = before_last prefix own was.before was.own was.later was.is in
      let legal_prefix = prior.legal in
      subst (λ rs. inc ≤ ((At script rs).servers n).life.inc) (sym rest.1)
      (incs_up script sound n inc was.before rest.0 (subst (AreSteps script) rest.1 legal_prefix) (let e = was.lives in omega arith))

  pub not_new : (n : ℕ) (f : List Command) → IsPrefix f (chosen_log this new) → is_in (state_after script.servers f) n ((old.servers n).life.inc + 1) ≡ true → ⊥
  not_new n f lies seat =
      let plain = prefix_plain script.servers f (chosen_log this new) (knows_now it).plain lies in
      elim (who_is_in script.servers f n ((old.servers n).life.inc + 1) plain seat) [
        | inl one ↦ (let first = first_incs script prefix sound (prior.legal) n in absurd (omega arith))
        | inr joined ↦ (
            let i = subst (In (Join n ((old.servers n).life.inc + 1) joined.0)) (sym lies.is) (in_former _ f lies.later joined.1) in
            let le = begun_before n ((old.servers n).life.inc + 1) joined.0 i in
            absurd (omega arith))
      ]

  -- who runs after the step as an incarnation that is In by some of what is chosen ran as it before, and has applied no more than was chosen before
  pub record IsHere (n : ℕ) (to : Server) : Type 0 where
    pub runs : (old.servers n).life.running ≡ true
    pub inc_is : to.life.inc ≡ (old.servers n).life.inc
    pub onward : IsPrefix (old.servers n).log.applied to.log.applied
    pub within : IsPrefix to.log.applied (chosen_log this old)

  pub here : (n : ℕ) → (new.servers n).life.running ≡ true → (f : List Command) → IsPrefix f (chosen_log this new)
      → is_in (state_after script.servers f) n (new.servers n).life.inc ≡ true → IsHere n (new.servers n)
  here n runs f lies seat = elim (gone it n) [
    | Goes_on (Keeps kept) same ↦ (let ran = kept.runs runs in record { runs = ran.0; inc_is = ran.1; onward = kept.onward; within = kept.within })
    | Goes_on (Works job) same ↦ record {
      runs = job.runs;
      inc_is = job.inc_is;
      onward = prefix_same (old.servers n).log.applied (new.servers n).log.applied job.log_is;
      within = subst (λ l. IsPrefix l (chosen_log this old)) (sym job.log_is) (mine_top it n);
    }
    | Goes_on (Awakes asleep is) same ↦
        absurd (not_new n f lies (subst (λ (s : Server). is_in (state_after script.servers f) n s.life.inc ≡ true) is seat))
    | Is_bare asleep bare same ↦ true_false (ap (λ (s : Server). s.life.running) (sym bare) ∙ runs) asleep
  ]
