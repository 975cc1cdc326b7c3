-- Each job of the log, as the schedule has it.
use Rattle.law_log.proofs.Imports.{[], if◌then◌else◌, ◌++◌, ◌+◌, ◌<◌, ◌||◌, ◌∙◌, ◌∷◌, ◌≡◌, ◌⊎◌, Actor, Among, Body, Bool, Command, Heard, Idle, In}
use Rattle.law_log.proofs.Imports.{IsAnnounced, IsProposer, Job, Leave, Letter, List, Log, LogDone, None, Nothing, Option, Pax, Phase, Post, Some, Voter}
use Rattle.law_log.proofs.Imports.{World, acceptor_of, ap, applies, applies_known, applies_then, arith, before_known, by_test, false, first_wanted, fold}
use Rattle.law_log.proofs.Imports.{get_last, has_command, hear, hears_log, hears_of_ballot, in-append, inc_accepted, inc_chosen, inc_promise, inl, inr}
use Rattle.law_log.proofs.Imports.{is_due, is_open, is_some, keeps, known, known_at, known_run, learns, learns_first, leave_before, length, length-append}
use Rattle.law_log.proofs.Imports.{less_by, log_does, nat_lt, next_place, none_some, not, on_ask, on_down, on_news, on_pax, on_propose, only, own_leave}
use Rattle.law_log.proofs.Imports.{proposes, refl, rev_of, same_command, sent, slice_get, starts, starts_for, state_in, subst, suc, sym, told_inc, true}
use Rattle.law_log.proofs.Imports.{unknown_from, wanted, with_entry, with_leave, zero, ℕ}
use Rattle.spec_paxos.specs.Proposer.{Step}
use Rattle.spec_state.specs.State.{inc_of}
use Rattle.law_log.specs.AgreedLog.{IsBacked, IsSaidBy}
use Rattle.law_log.proofs.RunningLog.{VotingLog, voter_at}
use Rattle.law_log.proofs.ListPlaces.{kept_among}
use Rattle.law_log.proofs.ProposersInSchedule.{pax_turn, start_turn}
use Rattle.law_log.proofs.AcceptorsInSchedule.{learn_turn}
use Rattle.law_log.proofs.ScheduleTurns.{HasTurn, still, no_posts, proposer_there, no_letter}
use Rattle.petal_command.specs.declared.pax.Pax.TheVariants as pax
use Rattle.petal_msg.specs.declared.body.Body.TheVariants as body
use Rattle.petal_msg.specs.declared.letter.Actor.TheVariants as actor
use Rattle.spec_rules.specs.declared.job.Job.TheVariants as job

-- ### Lists of entries

-- an entry of a News that isn't known is one of its commands
abbrev IsListed : ℕ → List Command → ℕ × Command → Type 0
IsListed place commands first = (i : ℕ) × (first.0 ≡ place + i) × (slice_get commands i ≡ Some first.1)

listed_by : (place : ℕ) (command : Command) (commands : List Command) (later : List (ℕ × Command)) (first : ℕ × Command) (rest : List (ℕ × Command))
    → (later ≡ first ∷ rest → IsListed (place + 1) commands first) → (b : Bool) → (if b then later else (place, command) ∷ later) ≡ first ∷ rest
    → IsListed place (command ∷ commands) first
listed_by place command commands later first rest known true e = let h = known e in (suc h.0, (let f = h.1 in omega arith), h.2)
listed_by place command commands later first rest known false e =
    let f : (place, command) ≡ first = cc in (
      0,
      (let g : place ≡ first.0 = ap (λ (x : ℕ × Command). x.0) f in omega arith),
      ap (λ (x : ℕ × Command). Some x.1) f,
    )

is_listed : (log : Log) (place : ℕ) (commands : List Command) (first : ℕ × Command) (rest : List (ℕ × Command)) → unknown_from log place commands ≡ first ∷ rest
    → IsListed place commands first
is_listed log place [] first rest e = absurd cc
is_listed log place (command ∷ commands) first rest e =
    listed_by place command commands (unknown_from log (place + 1) commands) first rest (is_listed log (place + 1) commands first rest)
    (is_some (known log place)) e

-- what is told of a run is known
run_by : (log : Log) (place : ℕ) (command : Command) (later : List Command)
    → ((i : ℕ) → slice_get later i ≡ Some command → known log (place + 1 + i) ≡ Some command)
    → (o : Option Command) → known log place ≡ o → (i : ℕ) → slice_get (before_known o later) i ≡ Some command → known log (place + i) ≡ Some command
run_by log place command later h None is i e = none_some refl e
run_by log place command later h (Some first) is zero e = let at : place + 0 ≡ place = omega arith in ap (known log) at ∙ is ∙ e
run_by log place command later h (Some first) is (suc i) e = let at : place + suc i ≡ place + 1 + i = omega arith in ap (known log) at ∙ h i e

pub run_known : (log : Log) (most place i : ℕ) (command : Command) → slice_get (known_run log place most) i ≡ Some command
    → known log (place + i) ≡ Some command
run_known log zero place i command e = none_some refl e
run_known log (suc most) place i command e =
    run_by log place command (known_run log (place + 1) most) (λ i. run_known log most (place + 1) i command) (known log place) refl i e

-- ### What follows a job up, and what is wanted afterwards

applies_follow : {A : Type 0} (letter : Letter) (before : Option Command) (next : Bool) → Among (job.Letter letter) (applies_then before next) → A
unfolding Among
applies_follow letter None true (inl e) = let f : job.Letter letter ≡ job.Apply = e in absurd cc
applies_follow letter None true (inr h) = absurd h
applies_follow letter None false h = absurd h
applies_follow letter (Some c) next h = absurd h

-- what comes of a job of the log: what is wanted then was wanted before, or may be
pub record Outcome (servers n : ℕ) (log : Log) (own : Job) (p : World) (Good : ℕ → Command → Type 0) (Fine : Command → Type 0) (done : LogDone) : Type 0 where
  pub turn : HasTurn servers n true done.log done.posts p Good
  pub wants : (command : Command) → Among command done.log.wants → Fine command
  pub leaves : (command : Command) → Among command done.log.leaves → Fine command
  pub follows : (letter : Letter) → Among (job.Letter letter) done.jobs → own ≡ job.Letter letter
  pub incs : told_inc done.log.records ≡ told_inc log.records
  pub applied : (done.log.applied ≡ log.applied) ⊎ (length log.applied < length done.log.applied)

pub one_longer : (entries : List Command) (entry : Command) → length entries < length (entries ++ entry ∷ [])
one_longer entries entry = simp length-append (omega arith)

-- the same is wanted and applied, and the incarnation is the same
pub record WantsSame (before later : Log) : Type 0 where
  pub wants : later.wants ≡ before.wants
  pub leaves : later.leaves ≡ before.leaves
  pub incs : told_inc later.records ≡ told_inc before.records
  pub applied : later.applied ≡ before.applied

-- ### Letters of a ballot

out_wants : (voter : Voter) (log : Log) (step : Step) (said : Heard) → WantsSame log (proposes voter log step said).log
out_wants voter log step Nothing = record { wants = refl; leaves = refl; incs = refl; applied = refl }
out_wants voter log step _ = record { wants = refl; leaves = refl; incs = refl; applied = refl }

out_follows : {A : Type 0} (voter : Voter) (log : Log) (step : Step) (said : Heard) (letter : Letter)
    → Among (job.Letter letter) (proposes voter log step said).jobs → A
out_follows voter log step Nothing letter h = no_letter letter h
out_follows voter log step _ letter h = no_letter letter h

learn_wants : (log : Log) (place : ℕ) (command : Command) → WantsSame log (learns log place command).log
unfolding learns
learn_wants log place command = record { wants = refl; leaves = refl; incs = inc_chosen log.records place command; applied = refl }

learn_follows : {A : Type 0} (log : Log) (place : ℕ) (command : Command) (letter : Letter) → Among (job.Letter letter) (learns log place command).jobs → A
unfolding learns
learn_follows log place command letter h = applies_follow letter (known log place) _ h

pax_wants : (voter : Voter) (log : Log) (from : ℕ) (said : Pax) → WantsSame log (hears_of_ballot voter log from said).log
pax_wants voter log from (pax.Prepare place b) =
    by_test (WantsSame log) (is_open (acceptor_of log.records place) b) _ _
    (λ e. record { wants = refl; leaves = refl; incs = inc_promise log.records place b; applied = refl })
    (λ e. record { wants = refl; leaves = refl; incs = refl; applied = refl })
pax_wants voter log from (pax.Accept place b command) =
    by_test (WantsSame log) (is_open (acceptor_of log.records place) b) _ _
    (λ e. record { wants = refl; leaves = refl; incs = inc_accepted log.records place b command; applied = refl })
    (λ e. record { wants = refl; leaves = refl; incs = refl; applied = refl })
pax_wants voter log from (pax.Chosen place command) = learn_wants log place command
pax_wants voter log from said = out_wants voter log (hear voter.servers log.phase from said) _

pax_follows : {A : Type 0} (voter : Voter) (log : Log) (from : ℕ) (said : Pax) (letter : Letter)
    → Among (job.Letter letter) (hears_of_ballot voter log from said).jobs → A
pax_follows voter log from (pax.Prepare place b) letter h = no_letter letter h
pax_follows voter log from (pax.Accept place b command) letter h = no_letter letter h
pax_follows voter log from (pax.Chosen place command) letter h = learn_follows log place command letter h
pax_follows voter log from said letter h = out_follows voter log (hear voter.servers log.phase from said) _ letter h

-- ### Each job

idle_too : (phase : Phase) (o : Option Phase) → IsProposer true phase o → IsProposer true Idle o
idle_too phase None h = h
idle_too phase (Some there) h = (refl, tt)

pub start_wants : (voter : Voter) (log : Log) (o : Option Command) → WantsSame log (starts_for voter log o).log
start_wants voter log (Some want) = record { wants = refl; leaves = refl; incs = inc_promise log.records _ _; applied = refl }
start_wants voter log None = record { wants = refl; leaves = refl; incs = refl; applied = refl }

start_follows : {A : Type 0} (voter : Voter) (log : Log) (o : Option Command) (letter : Letter) → Among (job.Letter letter) (starts_for voter log o).jobs → A
start_follows voter log (Some want) letter h = no_letter letter h
start_follows voter log None letter h = no_letter letter h

one_more : (c command : Command) (wants : List Command) → Among c (wants ++ command ∷ []) → Among c wants ⊎ (c ≡ command)
one_more c command wants h = elim (in-append c wants (command ∷ []) h) [
  | inl i ↦ inl i
  | inr i ↦ inr (only (λ x. x ≡ command) command c i refl)
]

-- ### Leaves

-- one Leave more is one of those before, or this one
one_leave : (xs : List Command) (leave c : Command) → Among c (with_leave xs leave) → Among c xs ⊎ (c ≡ leave)
unfolding Among
one_leave [] leave c h = elim h [ inl e ↦ inr e | inr none ↦ absurd none ]
one_leave (first ∷ xs) leave c h =
    by_test (λ (ys : List Command). Among c ys → Among c (first ∷ xs) ⊎ (c ≡ leave)) (same_command first leave) _ _ (λ e i. inl i)
    (λ e. by_test (λ (ys : List Command). Among c ys → Among c (first ∷ xs) ⊎ (c ≡ leave)) (leave_before leave first) _ _
    (λ f i. elim i [ inl is ↦ inr is | inr old ↦ inl old ])
    (λ f i. elim i [ inl is ↦ inl (inl is) | inr j ↦ elim (one_leave xs leave c j) [ inl old ↦ inl (inr old) | inr is ↦ inr is ] ])) h

pub all_leaves : (more xs : List Command) (c : Command) → Among c (fold with_leave xs more) → Among c xs ⊎ Among c more
unfolding Among
all_leaves [] xs c h = inl h
all_leaves (leave ∷ more) xs c h = elim (all_leaves more (with_leave xs leave) c h) [
  | inl i ↦ elim (one_leave xs leave c i) [ inl old ↦ inl old | inr is ↦ inr (inl is) ]
  | inr i ↦ inr (inr i)
]

-- its own Leave is of an earlier incarnation
pub own_leaves : {A : Type 0} (me inc : ℕ) (o : Option ℕ) (c : Command) → ((earlier : ℕ) → earlier < inc → c ≡ Leave me earlier → A)
    → Among c (own_leave me inc o) → A
unfolding Among
own_leaves me inc None c so h = absurd h
own_leaves {A} me inc (Some earlier) c so h = by_test (λ (xs : List Command). Among c xs → A) (nat_lt earlier inc) _ _
    (λ lt i. elim i [ inl is ↦ so earlier (less_by earlier inc lt) is | inr none ↦ absurd none ]) (λ e i. absurd i) h

-- such a log before a job, and in which sense its commands are called for: those that the server wants, and each Leave that it may want
pub record JobLog : Type 1 where
  pub voting : VotingLog
  pub open voting use {running, servers, n, log, p, low, seen, busy, inc}
  pub one : (place : ℕ) (c d : Command) → IsAnnounced p place c → IsAnnounced p place d → d ≡ c
  pub Good : ℕ → Command → Type 0
  pub Fine : Command → Type 0
  pub fine : (c : Command) → Among c log.wants → Fine c
  pub leaving : (c : Command) → Among c log.leaves → Fine c
  pub own_leaving : (earlier : ℕ) → earlier < inc → Fine (Leave n earlier)
  pub good : (c : Command) → Fine c → Good (next_place log) c

module _ (it : JobLog) where
  open it use {voting, running, servers, n, log, p, low, seen, busy, inc, one, Good, Fine, fine, leaving, own_leaving, good}

  abbrev Left : Job → LogDone → Type 0
  Left own done = Outcome servers n log own p Good Fine done

  abbrev voter : Voter
  voter = voter_at voting

  -- a job that wants these, says so much, and leaves the rest of the log as it is
  wants_these : (own : Job) (wants leaves : List Command) (posts : List Post) → ((c : Command) → Among c wants → Fine c)
      → ((c : Command) → Among c leaves → Fine c)
      → ((post : Post) → Among post posts → IsBacked p (λ command. ⊥) (λ said. In (sent n said) p.letters) post.body)
      → Left own (record { log = record log { wants = wants; leaves = leaves }; posts = posts; jobs = [] })
  wants_these own wants leaves posts all every backed = record {
    turn = still servers n true (record log { wants = wants; leaves = leaves }) posts p Good low seen busy backed;
    wants = all;
    leaves = every;
    follows = λ letter h. no_letter letter h;
    incs = refl;
    applied = inl refl;
  }

  -- one that wants what was wanted
  wants_as_before : (own : Job) (done : LogDone) → WantsSame log done.log
      → ((letter : Letter) → Among (job.Letter letter) done.jobs → own ≡ job.Letter letter)
      → HasTurn servers n true done.log done.posts p Good → Left own done
  wants_as_before own done same follows turn = record {
    turn = turn;
    wants = λ c h. fine c (subst (Among c) same.wants h);
    leaves = λ c h. leaving c (subst (Among c) same.leaves h);
    follows = follows;
    incs = same.incs;
    applied = inl same.applied;
  }

  kept : (own : Job) → Left own (keeps log)
  kept own = wants_these own log.wants log.leaves [] fine leaving (λ post i. no_posts post i)

  stopped : (own : Job) (server stop : ℕ) → Fine (Leave server stop) → Left own (on_down log server stop)
  unfolding on_down
  stopped own server stop f = wants_these own log.wants (with_leave log.leaves (Leave server stop)) [] fine
      (λ c h. elim (one_leave log.leaves (Leave server stop) c h) [ inl old ↦ leaving c old | inr is ↦ subst Fine (sym is) f ])
      (λ post i. no_posts post i)

  proposed : (own : Job) (command : Command) → Fine command → Left own (on_propose log command)
  unfolding on_propose
  proposed own command f =
      by_test (Left own) (has_command log.applied command || has_command log.wants command) _ _ (λ e. kept own)
      (λ e. wants_these own (log.wants ++ command ∷ []) log.leaves []
      (λ c h. elim (one_more c command log.wants h) [ inl old ↦ fine c old | inr is ↦ subst Fine (sym is) f ]) leaving (λ post i. no_posts post i))

  told : (own : Job) (who : Actor) (rev : ℕ) → Left own (on_ask log who rev)
  unfolding on_ask
  told own who rev = wants_these own log.wants log.leaves _ fine leaving
      (λ post i. only (λ (x : Post). IsBacked p (λ command. ⊥) (λ said. In (sent n said) p.letters) x.body) _ post i
      (λ i c e. let at : rev + 1 + i ≡ rev + i + 1 = omega arith in subst (λ place. IsAnnounced p place c) at
      (seen.told (rev + 1 + i) c (run_known log 64 (rev + 1) i c e))))

  learnt : (own : Job) (place : ℕ) (c : Command) → IsAnnounced p place c → Left own (learns log place c)
  unfolding learns
  learnt own place c t =
      let at = proposer_there log.phase (p.proposers n) busy.proposer in
      let h = learn_turn running Good at.0 at.1 place c t (λ d u. one place c d t u) in
      wants_as_before own _ (learn_wants log place c) (λ letter h. learn_follows log place c letter h)
      (record { events = h.events; wanted = h.wanted; turns = h.turns })

  told_first : (letter : Letter) (after : ℕ) (commands : List Command)
      → ((i : ℕ) (c : Command) → slice_get commands i ≡ Some c → IsAnnounced p (after + i + 1) c)
      → (first : ℕ × Command) (rest : List (ℕ × Command)) → unknown_from log (after + 1) commands ≡ first ∷ rest → IsAnnounced p first.0 first.1
  told_first letter after commands told first rest e =
      let at = is_listed log (after + 1) commands first rest e in
      let f = at.1 in
      let same : after + at.0 + 1 ≡ first.0 = omega arith in
      subst (λ place. IsAnnounced p place first.1) same (told at.0 first.1 at.2)

  heard_news : (letter : Letter) (after : ℕ) (commands : List Command)
      → ((i : ℕ) (c : Command) → slice_get commands i ≡ Some c → IsAnnounced p (after + i + 1) c)
      → (listed : List (ℕ × Command)) → unknown_from log (after + 1) commands ≡ listed → Left (job.Letter letter) (learns_first log letter listed)
  heard_news letter after commands told [] e = kept (job.Letter letter)
  heard_news letter after commands told (first ∷ []) e = learnt (job.Letter letter) first.0 first.1 (told_first letter after commands told first [] e)
  heard_news letter after commands told (first ∷ next ∷ more) e =
      let h = learnt (job.Letter letter) first.0 first.1 (told_first letter after commands told first (next ∷ more) e) in
      record {
        turn = record { events = h.turn.events; wanted = h.turn.wanted; turns = h.turn.turns };
        wants = h.wants;
        leaves = h.leaves;
        follows = λ own i. elim (in-append (job.Letter own) (learns log first.0 first.1).jobs (job.Letter letter ∷ []) i) [
          | inl j ↦ learn_follows log first.0 first.1 own j
          | inr j ↦ only (λ x. job.Letter letter ≡ x) (job.Letter letter) (job.Letter own) j refl
        ];
        incs = h.incs;
        applied = h.applied;
      }

  news : (letter : Letter) (after : ℕ) (commands : List Command) → ((i : ℕ) (c : Command) → slice_get commands i ≡ Some c → IsAnnounced p (after + i + 1) c)
      → Left (job.Letter letter) (on_news log letter after commands)
  unfolding on_news
  news letter after commands told = heard_news letter after commands told (unknown_from log (after + 1) commands) refl

  ballots : (own : Job) (who : Actor) (said : Pax) → IsSaidBy p who said → Left own (on_pax voter log who said)
  unfolding on_pax
  ballots own (actor.Server from) said i =
      let at = proposer_there log.phase (p.proposers n) busy.proposer in
      wants_as_before own _ (pax_wants voter log from said) (λ letter h. pax_follows voter log from said letter h)
      (pax_turn voting Good at.0 at.1 one at.2 from said i)
  ballots own (actor.Client c) said i = kept own

  applied_one : (own : Job) (o : Option Command) → known log (next_place log) ≡ o → Left own (applies_known log o)
  applied_one own None e = kept own
  applied_one own (Some entry) e = record {
    turn = still servers n true (with_entry log entry) [] p Good low
        (record {
          acceptors = seen.acceptors;
          known = seen.known;
          inc = seen.inc;
          votes = seen.votes;
          told = seen.told;
          applied = λ i c is. elim (get_last log.applied entry i c is) [
            | inl old ↦ seen.applied i c old
            | inr last ↦ ap (λ k. known_at log.records (k + 1)) last.0 ∙ e ∙ ap Some (sym last.1)
          ];
        })
        (record { proposer = idle_too log.phase (p.proposers n) busy.proposer; asked = tt }) (λ post i. no_posts post i);
    wants = λ c h. fine c (kept_among (λ other. not (same_command other entry)) log.wants c h);
    leaves = leaving;
    follows = λ letter h. applies_follow letter None _ h;
    incs = refl;
    applied = inr (one_longer log.applied entry);
  }

  pub fine_wanted : (returning : List Command) (c : Command) → Among c (wanted voter log returning) → Fine c ⊎ Among c returning
  fine_wanted returning c h = elim (in-append c _ log.wants h) [
    | inl former ↦ elim (in-append c _ returning former) [
      | inl i ↦ elim (all_leaves (own_leave n inc (inc_of (state_in servers log) n)) _ c i) [
        | inl due ↦ inl (leaving c (kept_among (is_due (state_in servers log)) log.leaves c due))
        | inr own ↦ inl (own_leaves n inc (inc_of (state_in servers log) n) c (λ earlier lt is. subst Fine (sym is) (own_leaving earlier lt)) own)
      ]
      | inr own ↦ inr own
    ]
    | inr i ↦ inl (fine c i)
  ]

  -- a ballot starts for one of these commands
  pub started : (own : Job) (wants : List Command) → ((c : Command) → first_wanted log.phase (rev_of log) wants ≡ Some c → Good (next_place log) c)
      → Left own (starts voter log wants)
  unfolding starts
  started own wants all =
      let at = proposer_there log.phase (p.proposers n) busy.proposer in
      let turn = start_turn voting Good at.0 at.1 wants all in
      let want = first_wanted log.phase (rev_of log) wants in
      wants_as_before own _ (start_wants voter log want) (λ letter h. start_follows voter log want letter h)
      (record { events = turn.events; wanted = turn.wanted; turns = turn.turns })

  pub applied_next : (own : Job) → Left own (applies log)
  unfolding applies
  applied_next own = applied_one own (known log (next_place log)) refl

  letter_done : (letter : Letter) (what : Body) → IsBacked p Fine (IsSaidBy p letter.from) what
      → Left (job.Letter letter) (hears_log voter log letter what)
  unfolding hears_log
  letter_done letter (body.Down server stop) h = stopped (job.Letter letter) server stop h
  letter_done letter (body.Propose command) h = proposed (job.Letter letter) command h
  letter_done letter (body.Pax said) h = ballots (job.Letter letter) letter.from said h
  letter_done letter (body.Ask rev) h = told (job.Letter letter) letter.from rev
  letter_done letter (body.News after commands) h = news letter after commands h
  letter_done letter _ h = kept (job.Letter letter)

  -- what a job's letter says stands there
  pub job_done : (own : Job) → ((letter : Letter) → own ≡ job.Letter letter → IsBacked p Fine (IsSaidBy p letter.from) letter.body)
      → Left own (log_does voter log own)
  unfolding log_does
  job_done (job.Letter letter) backed = letter_done letter letter.body (backed letter refl)
  job_done job.Apply backed = applied_next job.Apply
  job_done what backed = kept what
