-- What a job of the agreed log leaves as it is: it speaks of the log alone, applies an entry only where it is the next one that is
-- known, and its own letter alone follows it up.
use Rattle.law_steps.proofs.Imports.{[], if◌then◌else◌, ◌++◌, ◌+◌, ◌==◌, ◌||◌, ◌∙◌, ◌∷◌, ◌≡◌, Accept, Actor, Body, Bool, Chosen, Collecting, Command, Decided}
use Rattle.law_steps.proofs.Imports.{Heard, Idle, In, Job, Letter, List, Log, LogDone, None, Option, Pax, Phase, Post, Prepare, Refused, Send, Some, Voter}
use Rattle.law_steps.proofs.Imports.{Voting, acceptor, ap, applies, applies_known, applies_then, ask_posts, ballot_posts, by_test, comes_out, false}
use Rattle.law_steps.proofs.Imports.{first_wanted, has_command, has_majority, hear, hears_log, hears_of_ballot, in-append, inl, inr, is_logged, is_open}
use Rattle.law_steps.proofs.Imports.{keeps, known, learns, learns_first, log_does, map, next_place, on_ask, on_down, on_news, on_pax, on_propose, only}
use Rattle.law_steps.proofs.Imports.{post_of, proposes, refl, rev_of, starts, starts_for, subject_of, subst, sym, to_all, to_unheard, true, unknown_from, ℕ}
use Rattle.spec_paxos.specs.Proposer.{Step}
use Rattle.spec_paxos.specs.declared.phase.Heard.TheVariants.{Nothing}
use Rattle.petal_msg.specs.declared.body.Body.TheVariants as body
use Rattle.petal_msg.specs.declared.letter.Actor.TheVariants as actor
use Rattle.spec_rules.specs.declared.job.Job.TheVariants as job

-- the letter speaks of the agreed log
abbrev pub IsLogged : Post → Type 0
IsLogged post = is_logged (subject_of post.body) ≡ true

pub record LogFrame (log : Log) (what : Job) (done : LogDone) : Type 0 where
  pub says : (post : Post) → In post done.posts → IsLogged post
  pub same : done.log.applied ≡ log.applied
  pub jobs : (letter : Letter) → In (job.Letter letter) done.jobs → what ≡ job.Letter letter

all_map : {A : Type 0} (f : A → Post) (xs : List A) → ((x : A) → IsLogged (f x)) → (post : Post) → In post (map f xs) → IsLogged post
unfolding In
all_map f [] all post h = absurd h
all_map f (x ∷ xs) all post (inl e) = subst IsLogged (sym e) (all x)
all_map f (x ∷ xs) all post (inr h) = all_map f xs all post h

pub all_logged : (voter : Voter) (said : Pax) (post : Post) → In post (to_all voter said) → IsLogged post
all_logged voter said post h = all_map (post_of (body.Pax said)) _ (λ n. refl) post h

pub unheard_logged : (voter : Voter) (heard : List Bool) (said : Pax) (post : Post) → In post (to_unheard voter heard said) → IsLogged post
unheard_logged voter heard said post h = all_map (post_of (body.Pax said)) _ (λ n. refl) post h

-- what a tick sends for a ballot
pub ballot_logged : (voter : Voter) (phase : Phase) (post : Post) → In post (ballot_posts voter phase) → IsLogged post
unfolding In
ballot_logged voter Idle post h = absurd h
ballot_logged voter (Collecting place ballot want heard best) post h = unheard_logged voter heard (Prepare place ballot) post h
ballot_logged voter (Voting place ballot command heard) post h =
    by_test (λ posts. In post posts → IsLogged post) (has_majority voter.servers heard) (to_all voter (Chosen place command))
    (to_unheard voter heard (Accept place ballot command))
    (λ t i. all_logged voter (Chosen place command) post i) (λ t i. unheard_logged voter heard (Accept place ballot command) post i) h

pub ask_logged : (voter : Voter) (log : Log) (post : Post) → In post (ask_posts voter log) → IsLogged post
ask_logged voter log post h = only IsLogged _ post h refl

module _ (voter : Voter) (log : Log) (what : Job) where
  abbrev F : LogDone → Type 0
  F done = LogFrame log what done

  -- the entries applied stay, nothing is sent and no letter follows
  quiet : (later : Log) → later.applied ≡ log.applied → F (keeps later)
  unfolding In
  quiet later e = record { says = λ post i. absurd i; same = e; jobs = λ letter i. absurd i }

  speaks : (later : Log) (posts : List Post) → later.applied ≡ log.applied → ((post : Post) → In post posts → IsLogged post)
      → F (record { log = later; posts = posts; jobs = [] })
  unfolding In
  speaks later posts e says = record { says = says; same = e; jobs = λ letter i. absurd i }

  no_letter : (o : Option Command) (b : Bool) (letter : Letter) → In (job.Letter letter) (applies_then o b) → what ≡ job.Letter letter
  unfolding In
  no_letter None true letter (inl e) = absurd (let f : job.Letter letter ≡ job.Apply = e in cc)
  no_letter None true letter (inr h) = absurd h
  no_letter None false letter h = absurd h
  no_letter (Some c) b letter h = absurd h

  learns_frame : (place : ℕ) (command : Command) → F (learns log place command)
  unfolding In learns
  learns_frame place command = record {
    says = λ post i. absurd i;
    same = refl;
    jobs = λ letter i. no_letter (known log place) (place == next_place log) letter i;
  }

  if_applied : (b : Bool) (one other : Log) → one.applied ≡ log.applied → other.applied ≡ log.applied → (if b then one else other).applied ≡ log.applied
  if_applied true one other e f = e
  if_applied false one other e f = f

  heard_frame : (from : ℕ) (said : Pax) → F (hears_of_ballot voter log from said)
  heard_frame from (Prepare place ballot) = speaks _ _ (if_applied (is_open (acceptor log place) ballot) _ _ refl refl) (λ post i. only IsLogged _ post i refl)
  heard_frame from (Accept place ballot command) =
      speaks _ _ (if_applied (is_open (acceptor log place) ballot) _ _ refl refl) (λ post i. only IsLogged _ post i refl)
  heard_frame from (Chosen place command) = learns_frame place command
  heard_frame from said = out_frame (hear voter.servers log.phase from said) _ refl
    where
      out_frame : (step : Step) (heard : Heard) → step.heard ≡ heard → F (comes_out voter log step)
      out_frame step Nothing e = subst (λ h. F (proposes voter log step h)) (sym e) (quiet _ refl)
      out_frame step (Send body) e = subst (λ h. F (proposes voter log step h)) (sym e) (speaks _ _ refl (all_logged voter body))
      out_frame step (Decided place command) e =
          subst (λ h. F (proposes voter log step h)) (sym e) (speaks _ _ refl (all_logged voter (Chosen place command)))
      out_frame step (Refused ballot) e = subst (λ h. F (proposes voter log step h)) (sym e) (quiet _ refl)

  pax_frame : (from : Actor) (said : Pax) → F (on_pax voter log from said)
  unfolding on_pax
  pax_frame (actor.Server n) said = heard_frame n said
  pax_frame (actor.Client c) said = quiet log refl

  propose_frame : (command : Command) → F (on_propose log command)
  unfolding on_propose
  propose_frame command =
      by_test F (has_command log.applied command || has_command log.wants command) _ _ (λ t. quiet log refl) (λ t. quiet _ refl)

  ask_frame : (from : Actor) (rev : ℕ) → F (on_ask log from rev)
  unfolding on_ask
  ask_frame from rev = speaks log _ refl (λ post i. only IsLogged _ post i refl)

  learns_first_frame : (letter : Letter) → what ≡ job.Letter letter → (entries : List (ℕ × Command)) → F (learns_first log letter entries)
  unfolding In
  learns_first_frame letter is [] = quiet log refl
  learns_first_frame letter is (first ∷ []) = learns_frame first.0 first.1
  learns_first_frame letter is (first ∷ next ∷ more) =
      let f = learns_frame first.0 first.1 in
      record {
        says = f.says;
        same = f.same;
        jobs = λ other i. elim (in-append (job.Letter other) (learns log first.0 first.1).jobs (job.Letter letter ∷ []) i) [
          | inl old ↦ f.jobs other old
          | inr new ↦ elim new [ inl e ↦ is ∙ sym e | inr none ↦ absurd none ]
        ];
      }

  letter_frame : (letter : Letter) → what ≡ job.Letter letter → (said : Body) → F (hears_log voter log letter said)
  unfolding hears_log on_down on_news
  letter_frame letter is (body.Down server inc) = quiet _ refl
  letter_frame letter is (body.Propose command) = propose_frame command
  letter_frame letter is (body.Pax said) = pax_frame letter.from said
  letter_frame letter is (body.Ask rev) = ask_frame letter.from rev
  letter_frame letter is (body.News after commands) = learns_first_frame letter is (unknown_from log (after + 1) commands)
  letter_frame letter is _ = quiet log refl

  starts_frame : (wants : List Command) → F (starts voter log wants)
  unfolding starts
  starts_frame wants = by (first_wanted log.phase (rev_of log) wants)
    where
      by : (o : Option Command) → F (starts_for voter log o)
      by None = quiet log refl
      by (Some want) = speaks _ _ refl (all_logged voter _)

-- each job of the log but the one that applies an entry
pub letter_frame_of : (voter : Voter) (log : Log) (letter : Letter) → LogFrame log (job.Letter letter) (log_does voter log (job.Letter letter))
unfolding log_does
letter_frame_of voter log letter = letter_frame voter log (job.Letter letter) letter refl letter.body

pub start_frame_of : (voter : Voter) (log : Log) (wants : List Command) → LogFrame log job.Start (starts voter log wants)
start_frame_of voter log wants = starts_frame voter log job.Start wants

-- ### Applying

-- the next entry is applied, and no letter follows
pub record IsApplied (log : Log) (entry : Command) (done : LogDone) : Type 0 where
  pub more : done.log.applied ≡ log.applied ++ entry ∷ []
  pub records : done.log.records ≡ log.records
  pub silent : done.posts ≡ []
  pub no_letters : (letter : Letter) → In (job.Letter letter) done.jobs → ⊥

no_next : (b : Bool) (letter : Letter) → In (job.Letter letter) (applies_then None b) → ⊥
unfolding In
no_next true letter (inl e) = let f : job.Letter letter ≡ job.Apply = e in cc
no_next true letter (inr none) = none
no_next false letter i = i

pub applied_entry : (log : Log) (entry : Command) → known log (next_place log) ≡ Some entry → IsApplied log entry (applies log)
unfolding applies
applied_entry log entry e = subst (λ o. IsApplied log entry (applies_known log o)) (sym e) (record {
  more = refl;
  records = refl;
  silent = refl;
  no_letters = λ letter i. no_next _ letter i;
})

pub applied_none : (log : Log) → known log (next_place log) ≡ None → applies log ≡ keeps log
unfolding applies
applied_none log e = ap (applies_known log) e
