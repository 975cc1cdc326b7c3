-- A job of the pairs that was done.
use Rattle.std.proofs.Common.{◌≡◌, ◌≤◌, List, ◌++◌, Some, Ok, Err, inl, inr, drop, length, refl, sym, ap, ◌∙◌, subst, arith}
use Rattle.std.specs.Prelude.{slice_get}
use Rattle.kept_chains.specs.Kept.{store_of}
use Rattle.kept_chains.specs.Standing.{StandsAsEither}
use Rattle.server_log.specs.Part.{Part, log_of}
use Rattle.pair_memory.specs.JobResult.{HoldsAt, IsDone, follow_up, held}
use Rattle.pair_memory.specs.PairMemory.{own_of}
use Rattle.pair_memory.specs.declared.error.WorkError.{WorkError}
use Rattle.pair_memory.specs.declared.error.WorkError.TheVariants.{Failed, NoRoom, NoMemory, Exhausted}
use Rattle.pair_memory.specs.declared.job_result.JobResult.{JobResult}
use Rattle.petal_disk.specs.Disk.{LeavesOnly}
use Rattle.petal_disk.specs.declared.disk.Disk.{Ghosts}
use Rattle.petal_msg.specs.declared.letter.Letter.{Letter}
use Rattle.spec_paxos.specs.declared.record.StateRecord.{StateRecord}
use Rattle.spec_rules.specs.Jobs.{does, works}
use Rattle.petal_base.specs.Limits.{journal_records, marks_limit}
use Rattle.spec_rules.specs.Server.{PairState}
use Rattle.spec_rules.specs.Server.{JobResult as Rule}
use Rattle.spec_rules.specs.Store.{Store, marked_by}
use Rattle.spec_rules.specs.declared.job.Job.{Job}
use Rattle.server_core.specs.ServerView.{ServerView, acted, here_in, left_by_first, server_of}
use Rattle.server_jobs.specs.Kind.{kind_of}
use Rattle.server_core.specs.Work.{IsFullLog, IsFullStore, IsFullWork, IsStoreWork}
use Rattle.server_jobs.specs.declared.queue.Kind.TheVariants.{OfPairs}
use Rattle.server_core.proofs.Rooms.{few_marked}
use Rattle.server_core.proofs.Works.{made, pair_left, pair_logged, pair_stops, pair_works}
use Rattle.server_store.specs.Holdings.{Holdings}
use Rattle.state_store.specs.Device.{Keeping}

module _ {D : Type 0} (device : Ghosts D) (records : List StateRecord) (old new : ServerView) (before after : Holdings D) (first : Job)
    (there : slice_get old.queue 0 ≡ Some first) (kind : kind_of first ≡ OfPairs) where
  abbrev rule : Rule
  rule = does (here_in old) (own_of old.side before) first

  -- what a crash within it leaves, as what the first job of the queue leaves
  pub pair_moments : LeavesOnly device.moment device.left_since before.disk after.disk (StandsAsEither before rule.own.store)
      → LeavesOnly device.moment device.left_since before.disk after.disk
      (StandsAsEither before (left_by_first old (store_of before) records).own.store)
  pair_moments =
      subst (λ (left : Store). LeavesOnly device.moment device.left_since before.disk after.disk (StandsAsEither before left))
      (pair_left old (store_of before) records first there kind)

  -- it is done as the rule says
  pub pair_worked : (done : JobResult) (letters : List Letter) → IsDone device (here_in old) (held old.side before) (held new.side after) (Ok done) rule
      → new.running ≡ old.running → new.log ≡ old.log → new.queue ≡ drop 1 old.queue ++ follow_up done.follow → letters ≡ done.letters
      → device.observable → HoldsAt device before → length records ≤ journal_records
      → acted new (store_of after) records letters ≡ works (here_in old) (server_of old (store_of before) records) old.queue
  unfolding made
  pair_worked done letters is running log queue same observed holds few_log =
      let by = is.done observed in
      let few_store : marked_by rule.own.store ≤ marks_limit
      = let few = few_marked device after (is.holds observed holds) in
      let left : marked_by (store_of after) ≡ marked_by rule.own.store = ap (λ (own : PairState). marked_by own.store) by.own in
      omega (arith, few, left) in
      let jobs = queue ∙ ap (λ (js : List Job). drop 1 old.queue ++ js) by.jobs in
      let inc : new.log.voter.inc ≡ old.log.voter.inc = ap (λ (part : Part). part.voter.inc) log in
      (λ i. made (running i) (inc i) (log_of (log i) records) (by.own i) (jobs i) ((same ∙ by.letters) i))
      ∙ sym (pair_works old (store_of before) records first there kind few_store few_log)

  -- and so is the rest
  pub pair_work : (done : JobResult) (letters : List Letter) → IsDone device (here_in old) (held old.side before) (held new.side after) (Ok done) rule
      → new.running ≡ old.running → new.log ≡ old.log → new.queue ≡ drop 1 old.queue ++ follow_up done.follow → letters ≡ done.letters
      → IsStoreWork device records old new before after (Ok letters)
  pair_work done letters is running log queue same = record {
    work = pair_worked done letters is running log queue same;
    logged = pair_logged old (store_of before) records first there kind;
    life = (running, ap (λ (part : Part). part.voter) log);
    keeps = is.keeps;
    holds = is.holds;
    moments = λ observed holds. pair_moments (is.moments observed holds);
    still = λ no. absurd (cc);
    same = λ no. absurd (cc);
    kept = tt;
    stays = tt;
    full = λ no. absurd (cc);
    spent = λ no. absurd (cc);
    cause = record { later = is.cause.later; failed = λ no. absurd (cc) };
    run = is.run;
  }

  -- and one that was refused
  pub pair_refused : (e : WorkError) → IsDone device (here_in old) (held old.side before) (held new.side after) (Err e) rule
      → new.running ≡ old.running → new.log ≡ old.log → new.queue ≡ old.queue → IsStoreWork device records old new before after (Err e)
  pair_refused e is running log queue =
      let same_core : new.side ≡ old.side → new ≡ old = λ side i. record { running = running i; log = log i; side = side i; queue = queue i } in
      record {
        work = tt;
        logged = pair_logged old (store_of before) records first there kind;
        life = (running, ap (λ (part : Part). part.voter) log);
        keeps = tt;
        holds = λ _ _. tt;
        moments = λ observed holds. pair_moments (is.moments observed holds);
        still = λ no. let e_is : e ≡ NoMemory = cc in is.still (ap Err e_is);
        same = λ no. let e_is : e ≡ NoMemory = cc in let same = is.same (ap Err e_is) in (same_core same.0, same.1);
        kept = is.kept;
        stays = is.stays;
        full = λ no. let e_is : e ≡ NoRoom = cc in let full = is.full (ap Err e_is) in record {
          count = full.count;
          same = (same_core full.same.0, full.same.1);
          stops = λ _ _. pair_stops old (store_of before) records first there kind full.over;
        };
        spent = λ no. let e_is : e ≡ Exhausted = cc in let spent = is.spent (ap Err e_is) in (same_core spent.same.0, spent.same.1);
        cause = record { later = is.cause.later; failed = λ no. let e_is : e ≡ Failed = cc in is.cause.failed (ap Err e_is) };
        run = is.run;
      }

-- no room on the one device or on the other
module _ {D E : Type 0} (device : Ghosts D) (other : Ghosts E) (old new : ServerView) where
  pub full_store : (before after : Holdings D) (state : Keeping E) → IsFullStore device state.records old new before after
      → IsFullWork device other old new before after state state
  full_store before after state full = record {
    count = inl full.count;
    same = (full.same.0, full.same.1, refl);
    stops = λ observed also holds kept. full.stops observed holds;
  }

  pub full_log : (store : Holdings D) (before after : Keeping E) → IsFullLog other (store_of store) old new before after
      → IsFullWork device other old new store store before after
  full_log store before after full = record {
    count = inr full.count;
    same = (full.same.0, refl, full.same.1);
    stops = λ observed also holds kept. full.stops also kept;
  }
