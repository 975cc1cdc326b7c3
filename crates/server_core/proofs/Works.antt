-- The first job of a queue, by which part of a server does it.
use Rattle.std.proofs.Common.{◌≡◌, ◌≤◌, ◌||◌, nat_lt, ℕ, ◌+◌, Bool, true, false, List, [], ◌∷◌, ◌++◌, drop, length, Option}
use Rattle.std.proofs.Common.{None, Some, if◌then◌else◌, refl, sym, ap, ◌∙◌, arith}
use Rattle.std.proofs.lemmas.Bool.Decides.{nat_tests}
use Rattle.std.specs.Prelude.{slice_get, slice_index_or, IsSomeAnd}
use Rattle.spec_rules.proofs.Applied.{servers_after}
use Rattle.server_log.specs.Said.{IsBy, follow_ups}
use Rattle.server_log.specs.Part.{log_of, sender_of}
use Rattle.server_log.specs.declared.memory.done.LogDone.{LogDone}
use Rattle.petal_command.specs.declared.command.Command.{Command}
use Rattle.petal_msg.specs.declared.letter.Letter.{Letter}
use Rattle.spec_paxos.specs.declared.record.StateRecord.{StateRecord}
use Rattle.spec_rules.specs.Crossing.{crossed_by, jobs_by}
use Rattle.spec_rules.specs.Entries.{applies, applies_known}
use Rattle.spec_rules.specs.Jobs.{Acted, crossing, does, is_log_job, job_done, stops, voter_of, where_room, worked, works}
use Rattle.spec_rules.specs.Log.{Log, Voter, known, next_place}
use Rattle.spec_rules.specs.Server.{JobResult, JobContext, PairState, Server, letters_of, sender}
use Rattle.spec_rules.specs.Store.{Store, marked_by}
use Rattle.spec_rules.specs.declared.job.Job.{Job}
use Rattle.spec_rules.specs.declared.job.Job.TheVariants as job
use Rattle.server_core.specs.ServerView.{ServerView, acted, after_first, here_in, left_by_first, server_of}
use Rattle.server_jobs.specs.Wants.{own_in}
use Rattle.server_jobs.specs.Kind.{kind_of}
use Rattle.server_jobs.specs.Ballots.{IsLeft, log_rule, own_left}
use Rattle.server_jobs.specs.declared.queue.Kind.TheVariants.{Applies, OfLog, OfPairs}
use Rattle.petal_base.specs.Limits.{journal_records, marks_limit}

-- ### Which part does it

not_pairs : (b : Bool) → (if b then OfLog else OfPairs) ≡ OfPairs → b ≡ false
not_pairs true is = absurd (cc)
not_pairs false is = refl

not_log : (b : Bool) → (if b then OfLog else OfPairs) ≡ OfLog → b ≡ true
not_log true is = refl
not_log false is = absurd (cc)

no_entry : (b : Bool) → (if b then OfLog else OfPairs) ≡ Applies → ⊥
no_entry true is = absurd (cc)
no_entry false is = absurd (cc)

job_pair : (here : JobContext) (server : Server) (first : Job) (rest : List Job) → kind_of first ≡ OfPairs
    → job_done here server first rest ≡ worked here server rest (does here server.own first)
job_pair here server job.Apply rest is = absurd (cc)
job_pair here server (job.Letter letter) rest is = rw (not_pairs (is_log_job (job.Letter letter)) is) refl
job_pair here server (job.Stage cell) rest is = refl
job_pair here server (job.Repair link) rest is = refl
job_pair here server job.Sweep rest is = refl
job_pair here server job.Start rest is = absurd (cc)

-- only the job by which an entry is applied is of both
pub apply_first : (queue : List Job) → IsSomeAnd (slice_get queue 0) (λ first. kind_of first ≡ Applies) → slice_get queue 0 ≡ Some job.Apply
apply_first [] none = absurd none
apply_first (job.Apply ∷ rest) is = refl
apply_first (job.Letter letter ∷ rest) is = absurd (no_entry (is_log_job (job.Letter letter)) is)
apply_first (job.Stage cell ∷ rest) is = absurd (cc)
apply_first (job.Repair link ∷ rest) is = absurd (cc)
apply_first (job.Sweep ∷ rest) is = absurd (cc)
apply_first (job.Start ∷ rest) is = absurd (cc)

-- ### Room

front_is : (queue : List Job) (first : Job) → slice_get queue 0 ≡ Some first → queue ≡ first ∷ drop 1 queue
front_is [] first is = absurd (cc)
front_is (j ∷ rest) first is = let same : j ≡ first = cc in ap (λ (k : Job). k ∷ rest) same

first_done : (here : JobContext) (server : Server) (queue : List Job) (first : Job) → slice_get queue 0 ≡ Some first
    → works here server queue ≡ where_room here server (job_done here server first (drop 1 queue))
first_done here server queue first is = ap (works here server) (front_is queue first is)

first_left : (here : JobContext) (server : Server) (queue : List Job) (first : Job) → slice_get queue 0 ≡ Some first
    → after_first here server queue ≡ (job_done here server first (drop 1 queue)).server
first_left here server queue first is = ap (after_first here server) (front_is queue first is)

-- the first job, where one was looked at
pub first_is : (queue : List Job) (first : Job) (P : Job → Type 0) → IsSomeAnd (slice_get queue 0) P → first ≡ slice_index_or queue 0 first
    → slice_get queue 0 ≡ Some first
first_is [] first P none is = absurd none
first_is (j ∷ rest) first P some is = ap Some (sym is)

pub few : (limit n : ℕ) → n ≤ limit → nat_lt limit n ≡ false
few limit n le = grind (arith, nat_tests)

pub many : (limit n : ℕ) → n ≡ limit + 1 → nat_lt limit n ≡ true
many limit n is = grind (arith, nat_tests)

-- where both devices have room for what the job leaves
pub fits : (here : JobContext) (server : Server) (left : Acted) → marked_by left.server.own.store ≤ marks_limit
    → length left.server.log.records ≤ journal_records
    → where_room here server left ≡ left
fits here server left marked records =
    rw (few journal_records (length left.server.log.records) records, few marks_limit (marked_by left.server.own.store) marked) refl

-- where the data device has none, and where the state device has none
full_store : (here : JobContext) (server : Server) (left : Acted) → marked_by left.server.own.store ≡ marks_limit + 1
    → where_room here server left ≡ stops here server
full_store here server left more =
    let stop = stops here server in
    let over = nat_lt marks_limit (marked_by left.server.own.store) in
    elim (nat_lt journal_records (length left.server.log.records)) as (λ b. (if b || over then stop else left) ≡ stop) [
      | true ↦ refl
      | false ↦ rw (many marks_limit (marked_by left.server.own.store) more) refl
    ]

full_log : (here : JobContext) (server : Server) (left : Acted) → length left.server.log.records ≡ journal_records + 1
    → where_room here server left ≡ stops here server
full_log here server left more = rw (many journal_records (length left.server.log.records) more) refl

-- ### Jobs of the pairs

module _ (core : ServerView) (store : Store) (records : List StateRecord)
    (first : Job) (there : slice_get core.queue 0 ≡ Some first) (kind : kind_of first ≡ OfPairs) where
  abbrev here : JobContext
  here = here_in core

  abbrev server : Server
  server = server_of core store records

  abbrev done : JobResult
  done = does here server.own first

  pub pair_works : marked_by done.own.store ≤ marks_limit → length records ≤ journal_records
      → works here server core.queue ≡ worked here server (drop 1 core.queue) done
  pair_works few_store few_log =
      first_done here server core.queue first there ∙ ap (where_room here server) (job_pair here server first (drop 1 core.queue) kind)
      ∙ fits here server (worked here server (drop 1 core.queue) done) few_store few_log

  pub pair_left : done.own.store ≡ (left_by_first core store records).own.store
  pair_left = sym (ap (λ (it : Server). it.own.store)
      (first_left here server core.queue first there ∙ ap (λ (left : Acted). left.server) (job_pair here server first (drop 1 core.queue) kind)))

  pub pair_logged : (left_by_first core store records).log.records ≡ records
  pair_logged = ap (λ (it : Server). it.log.records)
      (first_left here server core.queue first there ∙ ap (λ (left : Acted). left.server) (job_pair here server first (drop 1 core.queue) kind))

  pub pair_stops : marked_by done.own.store ≡ marks_limit + 1 → works here server core.queue ≡ stops here server
  pair_stops more =
      first_done here server core.queue first there ∙ ap (where_room here server) (job_pair here server first (drop 1 core.queue) kind)
      ∙ full_store here server (worked here server (drop 1 core.queue) done) more

-- ### Jobs of the log

-- a server knows how many servers there are
pub voter_is : (core : ServerView) → voter_of (here_in core) ≡ core.log.voter
voter_is core =
    ap (λ (n : ℕ). record { me = core.log.voter.me; inc = core.log.voter.inc; servers = n }) (servers_after core.log.voter.servers core.log.applied)

-- what a job of the log leaves, as this voter
abbrev pub entered_as : ServerView → Store → List StateRecord → Job → Voter → Acted
entered_as core store records first voter =
    let rule = log_rule core.log core.side store records first voter in
    record {
      server = record (server_of core store records) {
        log = rule.log;
        own = own_left core.log core.side store records first voter;
        queue = drop 1 core.queue ++ rule.jobs;
      };
      letters = letters_of (sender (here_in core)) 0 rule.posts;
    }

log_entered : (core : ServerView) (store : Store) (records : List StateRecord) (first : Job) → kind_of first ≡ OfLog
    → job_done (here_in core) (server_of core store records) first (drop 1 core.queue) ≡ entered_as core store records first (voter_of (here_in core))
log_entered core store records job.Apply kind = absurd (cc)
log_entered core store records (job.Letter letter) kind = rw (not_log (is_log_job (job.Letter letter)) kind) refl
log_entered core store records (job.Stage cell) kind = absurd (cc)
log_entered core store records (job.Repair link) kind = absurd (cc)
log_entered core store records job.Sweep kind = absurd (cc)
log_entered core store records job.Start kind = refl

module _ (core : ServerView) (store : Store) (records : List StateRecord)
    (first : Job) (there : slice_get core.queue 0 ≡ Some first) (kind : kind_of first ≡ OfLog) where
  abbrev at : JobContext
  at = here_in core

  abbrev it : Server
  it = server_of core store records

  abbrev left_by : Voter → Acted
  left_by voter = entered_as core store records first voter

  entered_is : works at it core.queue ≡ where_room at it (left_by core.log.voter)
  entered_is =
      first_done at it core.queue first there
      ∙ ap (where_room at it) (log_entered core store records first kind)
      ∙ ap (λ (voter : Voter). where_room at it (left_by voter)) (voter_is core)

  pub log_left : (log_rule core.log core.side store records first core.log.voter).log.records ≡ (left_by_first core store records).log.records
  log_left = sym (ap (λ (it : Server). it.log.records)
      (first_left at it core.queue first there ∙ ap (λ (left : Acted). left.server) (log_entered core store records first kind
      ∙ ap (λ (voter : Voter). left_by voter) (voter_is core))))

  pub log_works : marked_by (left_by core.log.voter).server.own.store ≤ marks_limit
      → length (log_rule core.log core.side store records first core.log.voter).log.records ≤ journal_records
      → works at it core.queue ≡ left_by core.log.voter
  log_works few_store few_log = entered_is ∙ fits at it (left_by core.log.voter) few_store few_log

  pub log_stops : length (log_rule core.log core.side store records first core.log.voter).log.records ≡ journal_records + 1
      → works at it core.queue ≡ stops at it
  log_stops more = entered_is ∙ full_log at it (left_by core.log.voter) more

unfoldable pub made : Bool → (inc : ℕ) → Log → PairState → List Job → List Letter → Acted
made running inc log own queue letters = record {
  server = record { life = record { running = running; inc = inc }; log = log; own = own; queue = queue };
  letters = letters;
}

-- a job of the log is done as the rule says
pub log_worked : (old new : ServerView) (store : Store) (before after : List StateRecord) (first : Job) (done : LogDone)
    → slice_get old.queue 0 ≡ Some first → kind_of first ≡ OfLog
    → IsBy (sender_of old.log) (log_of new.log after) done (log_rule old.log old.side store before first old.log.voter)
    → IsLeft old.log old.side store before first new.side
    → new.running ≡ old.running → new.log.voter ≡ old.log.voter → new.queue ≡ drop 1 old.queue ++ follow_ups done
    → marked_by store ≤ marks_limit → length after ≤ journal_records
    → acted new store after done.letters ≡ works (here_in old) (server_of old store before) old.queue
unfolding made
log_worked old new store before after first done there kind by left running voter queue few_store few_log =
    let rule = log_rule old.log old.side store before first old.log.voter in
    let own = left.0 in
    let jobs = queue ∙ ap (λ (js : List Job). drop 1 old.queue ++ js) by.jobs in
    let inc : new.log.voter.inc ≡ old.log.voter.inc = ap (λ (v : Voter). v.inc) voter in
    let records : length rule.log.records ≤ journal_records =
    (let same : length after ≡ length rule.log.records = ap (λ (log : Log). length log.records) by.log in omega (arith, same)) in
    let stored : marked_by (own_left old.log old.side store before first old.log.voter).store ≤ marks_limit =
    (let same : marked_by store ≡ marked_by (own_left old.log old.side store before first old.log.voter).store
    = ap (λ (o : PairState). marked_by o.store) own in
    omega (arith, same, few_store)) in
    (λ i. made (running i) (inc i) (by.log i) (own i) (jobs i) (by.letters i))
    ∙ sym (log_works old store before first there kind stored records)

-- ### An entry

-- an entry that is applied adds no record
pub applies_records : (log : Log) (next : Option Command) → (applies_known log next).log.records ≡ log.records
applies_records log None = refl
applies_records log (Some entry) = refl

module _ (old : ServerView) (before : Store) (records : List StateRecord) (there : slice_get old.queue 0 ≡ Some job.Apply) where
  abbrev where_old : JobContext
  where_old = here_in old

  abbrev was : Server
  was = server_of old before records

  abbrev entry : Option Command
  entry = known was.log (next_place was.log)

  abbrev own_after : PairState
  own_after = crossed_by where_old entry was.own

  abbrev stages : List Job
  stages = jobs_by where_old.state where_old.me entry was.own

  entry_works : marked_by own_after.store ≤ marks_limit → length (applies was.log).log.records ≤ journal_records
      → works where_old was old.queue ≡ crossing where_old was (drop 1 old.queue) entry (applies was.log)
  entry_works few_store few_log = first_done where_old was old.queue job.Apply there ∙ fits where_old was _ few_store few_log

  entry_done : after_first where_old was old.queue ≡ (crossing where_old was (drop 1 old.queue) entry (applies was.log)).server
  entry_done = first_left where_old was old.queue job.Apply there

  pub entry_left : own_after.store ≡ (left_by_first old before records).own.store
  entry_left = sym (ap (λ (it : Server). it.own.store) entry_done)

  pub entry_logged : (left_by_first old before records).log.records ≡ records
  unfolding applies
  entry_logged = ap (λ (it : Server). it.log.records) entry_done ∙ applies_records was.log entry

  -- an entry is applied as the rule says
  pub entry_worked : (new : ServerView) (after : Store) (done : LogDone) → IsBy (sender_of old.log) (log_of new.log records) done (applies was.log)
      → new.running ≡ old.running → new.log.voter ≡ old.log.voter → own_in new.side after ≡ own_after
      → new.queue ≡ (drop 1 old.queue ++ follow_ups done) ++ stages
      → marked_by after ≤ marks_limit → length records ≤ journal_records
      → acted new after records done.letters ≡ works where_old was old.queue
  unfolding made
  entry_worked new after done by running voter own queue few_store few_log =
      let jobs = queue ∙ ap (λ (js : List Job). (drop 1 old.queue ++ js) ++ stages) by.jobs in
      let inc : new.log.voter.inc ≡ old.log.voter.inc = ap (λ (v : Voter). v.inc) voter in
      let few_stored : marked_by own_after.store ≤ marks_limit =
      (let same : marked_by after ≡ marked_by own_after.store = ap (λ (o : PairState). marked_by o.store) own in omega (arith, same, few_store)) in
      let few_known : length (applies was.log).log.records ≤ journal_records =
      (let same : length records ≡ length (applies was.log).log.records = ap (λ (l : Log). length l.records) by.log in omega (arith, same)) in
      (λ i. made (running i) (inc i) (by.log i) (own i) (jobs i) (by.letters i)) ∙ sym (entry_works few_stored few_known)
