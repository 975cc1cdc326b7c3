-- By each step, of a client or of a server, every refusal goes on to have its reason.
use Rattle.law_answers.proofs.Imports.{[], ◌<◌, ◌∙◌, ◌∷◌, ◌≡◌, ◌≤◌, ◌⊎◌, Acted, Actor, Blank, Body, Bool, By_ballot, By_entry, By_job, Command, Fails}
use Rattle.law_answers.proofs.Imports.{Finished, Firm, Glanced, Heard, In, IsIdle, IsPrefix, Job, JobResult, Letter, List, Log, MayActor, Option, PairState}
use Rattle.law_answers.proofs.Imports.{Pairs, Post, Reaction, Rests, Said, Sender, Server, Serves_on, Serving, Setting, Some, Stays, Step, Stops_so, Turned}
use Rattle.law_answers.proofs.Imports.{Wakes, Work, Worked, World, ap, arith, at, at-empty, awake, blanked, by_settled, cell_cmp, chosen_log, client_sender}
use Rattle.law_answers.proofs.Imports.{client_state, client_step, client_turns, crossed, down_posts, false, in-append, inl, inr, is_ask, is_call, is_logged}
use Rattle.law_answers.proofs.Imports.{length, letters_of, log_rev, map, nat_cmp, next_line, no_pairs, none_some, own_place, own_steady, post_of, proposed}
use Rattle.law_answers.proofs.Imports.{proposed_pairs, raised, reacts, refl, said, sender, served, served_so, server_serves, server_state, servers_of}
use Rattle.law_answers.proofs.Imports.{settled_by, shown_so, silent, stamped, stays, step, stopped, stopped_so, subject_of, subst, sym, true, true_false}
use Rattle.law_answers.proofs.Imports.{turned_asks, wakes, was_same, without_rev, ℕ}
use Rattle.law_answers.proofs.SlotLetters.{Duty, JobRefuses, Scene, WereRefused, is_of_slots, not_full}
use Rattle.law_answers.proofs.RefusalFrames.{IsDue, GoesOn, StepRefuses, still_declined, still_numbered, still_on, step_refusals}
use Rattle.law_answers.specs.Refusals.{HadNoSlot, Refusals}
use Rattle.law_answers.proofs.JobsRefuseForReasons.{asks_refuses, job_refuses, kept_refuses}
use Rattle.petal_msg.specs.declared.body.Body.TheVariants as body
use Rattle.petal_msg.specs.declared.letter.Actor.TheVariants as actor
use Rattle.petal_msg.specs.declared.operation.Ending.TheVariants as ending
use Rattle.spec_rules.specs.declared.step.WorkEnd.TheVariants as work_end

-- ### Steps

turn_refusals : (R S : ℕ → ℕ → Type 0) (setting : Setting) (w : World) (c stamp : ℕ) (in_call : Bool) (reacted : Reaction)
    → ((c seq : ℕ) → R c seq → S c seq) → Refusals R setting w
    → Turned (Heard w (actor.Client c)) setting.servers setting.lines c (w.clients c) in_call reacted
    → IsPrefix (chosen_log setting w) (chosen_log setting (reacts w c stamp reacted).world) → Refusals S setting (reacts w c stamp reacted).world
turn_refusals R S setting w c stamp in_call reacted more refusals turned grows = record {
  letters = λ letter j seq h to says. elim (in-append letter _ w.sent h) [
    | inl new ↦ true_false (asks letter new) (ap is_ask says)
    | inr old ↦ more j seq (refusals.letters letter j seq old to says)
  ];
  finished = λ n j last runs is how. more j last.seq (refusals.finished n j last runs is how);
  numbered = refusals.numbered;
  reserves = λ letter number cell h says. elim (in-append letter _ w.sent h) [
    | inl new ↦ true_false (asks letter new) (ap is_ask says)
    | inr old ↦ still_numbered setting w (reacts w c stamp reacted).world grows (still_on R setting w refusals) letter number cell
        (refusals.reserves letter number cell old says)
  ];
  declined = λ letter number cell h says. elim (in-append letter _ w.sent h) [
    | inl new ↦ true_false (asks letter new) (ap is_ask says)
    | inr old ↦ still_declined R S setting w (reacts w c stamp reacted).world more grows (still_on R setting w refusals) letter number cell
        (refusals.declined letter number cell old says)
  ];
}
  where
    asks : (letter : Letter) → In letter (stamped stamp (letters_of (client_sender c reacted.client) 0 reacted.posts)) → is_ask letter.body ≡ true
    asks letter h =
        let s = said (client_sender c reacted.client) stamp 0 reacted.posts letter h in ap is_ask s.body
        ∙ turned_asks _ setting.servers setting.lines c (w.clients c) in_call reacted turned s.post s.there

all_down : (me inc : ℕ) (others : List ℕ) (post : Post) → In post (map (post_of (body.Down me inc)) others) → is_of_slots post.body ≡ false
unfolding In
all_down me inc [] post h = absurd h
all_down me inc (n ∷ others) post (inl e) = ap (λ (p : Post). is_of_slots p.body) e
all_down me inc (n ∷ others) post (inr h) = all_down me inc others post h

module _ (R S : ℕ → ℕ → Type 0) (it : WereRefused R S) (n stamp : ℕ) where
  open it use {setting, w, firm, rests, more, refusals}

  abbrev scene : (w.servers n).life.running ≡ true → Scene R S
  scene runs = record { were = it; n = n; runs = runs }

  abbrev here : Server
  here = w.servers n

  -- a server that is still the incarnation that it was, with what a job leaves
  job_on : (T : ℕ → ℕ → Type 0) (own : PairState) (posts : List Post) → JobRefuses T setting w n own posts → (new : Server) → new.own ≡ own
      → new.life.inc ≡ here.life.inc
      → GoesOn here new
  job_on T own posts job new owns incs = record {
    life = omega arith;
    next = λ same. subst (λ (o : PairState). here.own.pairs.next ≤ o.pairs.next) (sym owns) job.next;
    pending = λ cell op same is. elim (job.pending cell op (sym (ap (λ (o : PairState). at cell_cmp o.pairs.pending cell) owns) ∙ is)) [
      | inl was ↦ inl was
      | inr now ↦ inr now.0
    ];
    numbered = λ cell op is.
        let more_next = job.next in
        subst (λ (o : PairState). op.op < o.pairs.next) (sym owns)
        (elim (job.pending cell op (sym (ap (λ (o : PairState). at cell_cmp o.pairs.pending cell) owns) ∙ is)) [
          | inl there ↦
              let old = refusals.numbered n cell there.was there.is in
              let same = there.same.number in
              omega arith
          | inr now ↦ now.1
        ]);
  }

  -- what a server does that goes on
  of_job : (log : Log) (done : JobResult) (queue : List Job) → (w.servers n).life.running ≡ true → JobRefuses S setting w n done.own done.posts
      → StepRefuses S setting w n stamp (served_so setting w n log done queue)
  of_job log done queue runs job =
      let who = sender (own_place setting w n) in
      let rev : (own_place setting w n).state.rev ≡ length here.log.applied = log_rev setting.servers here.log.applied in
      record {
        finished = λ c last on is how. elim (job.finished c last is how) [
          | inl was ↦ more c last.seq (refusals.finished n c last runs was how)
          | inr now ↦ now
        ];
        onward = job_on S done.own done.posts job _ refl refl;
        says = λ letter h. let s = said who stamp 0 done.posts letter h in
            subst (IsDue S setting w n _ letter) (sym s.body) (due letter s (sym (s.rev ∙ rev)) s.post.body (job.says s.post s.there));
      }
    where
      due : (letter : Letter) (s : Said (sender (own_place setting w n)) stamp done.posts letter) → length here.log.applied ≡ letter.rev → (what : Body)
          → Duty S setting w n done.own s.post what → IsDue S setting w n (served_so setting w n log done queue) letter what
      due letter s long (body.Full seq) d = λ c to. d c (sym s.to ∙ to)
      due letter s long (body.Reserve number cell) a = record { long = long; seated = a.seated; leads = a.leads; same = refl; given = a.given }
      due letter s long (body.PairFull number cell) t =
          let k = t.asked in
          record {
            by = record {
              server = k.server;
              inc = k.inc;
              prefix = k.prefix;
              stands = k.stands;
              long = k.long ∙ t.revision ∙ long;
              seated = k.seated;
              leads = k.leads;
              begun = k.begun;
              given = k.given;
            };
            to = s.to ∙ t.to;
            refused = λ op same is numbered clients. t.refused op is numbered clients;
          }
      due letter s long _ d = tt

  -- letters that tell of no slots
  module _ (acted : Acted) (who : Sender) (posts : List Post) (letters : acted.letters ≡ letters_of who 0 posts)
      (unsaid : (post : Post) → In post posts → is_of_slots post.body ≡ false) where
    no_full : (letter : Letter) → In letter (stamped stamp acted.letters) → is_of_slots letter.body ≡ false
    no_full letter h =
        let s = said who stamp 0 posts letter (subst (λ ls. In letter (stamped stamp ls)) letters h) in ap is_of_slots s.body
        ∙ unsaid s.post s.there

    undue : (letter : Letter) (said : Body) → is_of_slots said ≡ false → IsDue S setting w n acted letter said
    undue letter (body.Full seq) e = true_false refl e
    undue letter (body.Reserve number cell) e = true_false refl e
    undue letter (body.PairFull number cell) e = true_false refl e
    undue letter _ e = tt

    of_quiet : ((c : ℕ) (last : Finished) → acted.server.life.running ≡ true → at nat_cmp acted.server.own.pairs.finished c ≡ Some last
        → last.ending ≡ ending.Full → S c last.seq)
        → GoesOn here acted.server → StepRefuses S setting w n stamp acted
    of_quiet finished onward = record {
      finished = finished;
      onward = onward;
      says = λ letter h. undue letter letter.body (no_full letter h);
    }

    -- the server does not run: what it has finished counts no more
    of_end : acted.server.life.running ≡ false → GoesOn here acted.server → StepRefuses S setting w n stamp acted
    of_end stopped onward = of_quiet (λ c last on is how. true_false on stopped) onward

    -- the server has nothing in memory
    of_wake : acted.server.own.pairs ≡ no_pairs → here.life.inc < acted.server.life.inc → StepRefuses S setting w n stamp acted
    of_wake none rises = of_quiet
        (λ c last on is how. none_some (ap (λ (p : Pairs). at nat_cmp p.finished c) none ∙ at-empty nat_cmp c) is)
        (record {
          life = omega arith;
          next = λ same. absurd (omega arith);
          pending = λ cell op same is. none_some (ap (λ (p : Pairs). at cell_cmp p.pending cell) none ∙ at-empty cell_cmp cell) is;
          numbered = λ cell op is. none_some (ap (λ (p : Pairs). at cell_cmp p.pending cell) none ∙ at-empty cell_cmp cell) is;
        })

    of_still : acted.server ≡ here → StepRefuses S setting w n stamp acted
    of_still same = of_quiet
        (λ c last on is how. more c last.seq (refusals.finished n c last (sym (ap (λ (x : Server). x.life.running) same) ∙ on)
        (ap (λ (x : Server). at nat_cmp x.own.pairs.finished c) (sym same) ∙ is) how))
        (subst (GoesOn here) (sym same) (still_on R setting w refusals n))

  -- a server whose boot failed
  raised_on : GoesOn here (raised here)
  raised_on = record {
    life = omega arith;
    next = λ same. omega arith;
    pending = λ cell op same is. inl (was_same here.own cell op is);
    numbered = refusals.numbered n;
  }

  -- one whose device is made blank
  blanked_refuses : here.life.running ≡ false → StepRefuses S setting w n stamp (stays (blanked here))
  unfolding In
  blanked_refuses asleep = of_end (stays (blanked here)) (sender (own_place setting w n)) [] refl (λ post i. absurd i) asleep (record {
    life = omega arith;
    next = λ same. omega arith;
    pending = λ cell op same is. inl (was_same here.own cell op is);
    numbered = refusals.numbered n;
  })

  abbrev downs : List Post
  downs = down_posts n (w.servers n).life.inc (servers_of (server_state setting w n))

  downs_not_full : (post : Post) → In post downs → is_of_slots post.body ≡ false
  downs_not_full post h = all_down n (w.servers n).life.inc _ post h

  -- a job that is none of the pairs'
  ballot_refuses : (runs : (w.servers n).life.running ≡ true) (started : Option Command) (posts : List Post)
      → ((post : Post) → In post posts → is_logged (subject_of post.body) ≡ true)
      → JobRefuses S setting w n (proposed (server_state setting w n) here.own started) posts
  ballot_refuses runs started posts says =
      let same = proposed_pairs (server_state setting w n) here.own started in
      kept_refuses R S (scene runs) (proposed (server_state setting w n) here.own started) posts (ap (λ (p : Pairs). p.finished) same)
      (ap (λ (p : Pairs). p.next) same) (ap (λ (p : Pairs). p.pending) same) says

  entry_refuses : (runs : (w.servers n).life.running ≡ true) (entry : Command)
      → JobRefuses S setting w n (settled_by (own_place setting w n) entry (crossed (server_state setting w n) entry here.own)) []
  unfolding In
  entry_refuses runs entry =
      let own = crossed (server_state setting w n) entry here.own in
      by_settled (λ (now : PairState). JobRefuses S setting w n now []) (own_place setting w n) entry own
      (λ store. kept_refuses R S (scene runs) (record own { store = store }) [] refl refl refl (λ post i. absurd i))

  idle_refuses : (runs : (w.servers n).life.running ≡ true) (done : JobResult) → IsIdle (own_place setting w n) here.own done
      → JobRefuses S setting w n done.own done.posts
  idle_refuses runs done idle = subst (λ (h : PairState). JobRefuses S setting w n h done.posts) (sym idle.same)
      (asks_refuses R S (scene runs) done.posts idle.asks)

  -- what a server that stops leaves is no more than a job leaves
  worked_on : (runs : (w.servers n).life.running ≡ true) (log : Log) (done : JobResult) → Worked setting w n log done
      → GoesOn here (stopped (served here log done []))
  worked_on runs _ _ (By_job log done same did seat) =
      let either = λ (c seq : ℕ). (S c seq ⊎ HadNoSlot setting w (actor.Server n) (Work work_end.Done) c seq) in
      job_on either done.own done.posts
      (job_refuses R either
      (record {
        were = record { setting = setting; w = w; firm = firm; rests = rests; more = λ c seq r. inl (more c seq r); refusals = refusals };
        n = n;
        runs = runs;
      })
      (λ c seq h. inr h) done did seat) _ refl refl
  worked_on runs _ _ (By_ballot log started posts same starts says) = job_on S _ posts (ballot_refuses runs started posts says) _ refl refl
  worked_on runs _ _ (By_entry log entry plus prefix) = job_on S _ [] (entry_refuses runs entry) _ refl refl

  module _ (what : Step) (now : (c seq : ℕ) → HadNoSlot setting w (actor.Server n) what c seq → S c seq) where
    now_work : what ≡ Work work_end.Done → (c seq : ℕ) → HadNoSlot setting w (actor.Server n) (Work work_end.Done) c seq → S c seq
    now_work works c seq h = now c seq (subst (λ x. HadNoSlot setting w (actor.Server n) x c seq) (sym works) h)

    goes_refuse : (log : Log) (done : JobResult) (queue : List Job) → (w.servers n).life.running ≡ true → Worked setting w n log done
        → (what ≡ Work work_end.Done) ⊎ IsIdle (own_place setting w n) here.own done
        → StepRefuses S setting w n stamp (served_so setting w n log done queue)
    goes_refuse _ _ queue runs (By_job log done same did seat) (inl works) =
        of_job log done queue runs (job_refuses R S (scene runs) (now_work works) done did seat)
    goes_refuse _ _ queue runs (By_job log done same did seat) (inr idle) = of_job log done queue runs (idle_refuses runs done idle)
    goes_refuse _ _ queue runs (By_ballot log started posts same starts says) works =
        of_job log (record { own = proposed (server_state setting w n) here.own started; posts = posts; jobs = [] }) queue runs
        (ballot_refuses runs started posts says)
    goes_refuse _ _ queue runs (By_entry log entry plus prefix) works =
        of_job log (silent (settled_by (own_place setting w n) entry (crossed (server_state setting w n) entry here.own))) queue runs
        (entry_refuses runs entry)

    serves_refuse : (acted : Acted) → Serving setting w n what acted → StepRefuses S setting w n stamp acted
    unfolding In
    serves_refuse _ (Serves_on log done queue runs worked queued works) = goes_refuse log done queue runs worked works
    serves_refuse _ (Stops_so log done runs worked) =
        of_end (stopped_so setting w n log done) (without_rev (own_place setting w n)) downs refl downs_not_full refl
        (worked_on runs log done worked)
    serves_refuse _ (Stays who posts from shown) =
        of_still (shown_so w n who posts) who posts refl (λ post i. not_full post.body Glanced (shown post i) refl) refl
    serves_refuse _ (Wakes booted asleep) =
        of_wake (wakes (own_place setting w n) (awake (raised here))) _ downs refl downs_not_full refl (omega arith)
    serves_refuse _ (Fails booted asleep) =
        of_end (stays (raised here)) (sender (own_place setting w n)) [] refl (λ post i. absurd i) asleep raised_on

module _ (setting : Setting) where
  pub step_kept : (R S : ℕ → ℕ → Type 0) (w : World) → Firm setting w → Rests setting w
      → (who : Actor) (what : Step) (stamp : ℕ) → MayActor who what setting w → Firm setting (step who what setting w stamp).world
      → IsPrefix (chosen_log setting w) (chosen_log setting (step who what setting w stamp).world)
      → ((c seq : ℕ) → R c seq → S c seq) → ((c seq : ℕ) → HadNoSlot setting w who what c seq → S c seq)
      → Refusals R setting w → Refusals S setting (step who what setting w stamp).world
  unfolding step
  step_kept R S w firm rests (actor.Server n) Blank stamp may later grows more now refusals =
      let it : WereRefused R S = record { setting = setting; w = w; firm = firm; rests = rests; more = more; refusals = refusals } in
      step_refusals R S it n stamp Blank _ (blanked_refuses R S it n stamp may.1.rests) grows
  step_kept R S w firm rests (actor.Server n) what stamp may later grows more now refusals =
      let it : WereRefused R S = record { setting = setting; w = w; firm = firm; rests = rests; more = more; refusals = refusals } in
      step_refusals R S it n stamp what _ (serves_refuse R S it n stamp what now _
      (server_serves setting w rests firm n (own_steady setting w firm n) stamp what refl may.1 later)) grows
  step_kept R S w firm rests (actor.Client c) what stamp may later grows more now refusals =
      turn_refusals R S setting w c stamp (is_call what)
      (client_step what (client_state setting w c) c (w.clients c) (next_line setting.lines c (w.clients c))) more refusals
      (client_turns setting w c what may.1).turned grows
