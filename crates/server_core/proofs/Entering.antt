-- The job that applies an entry, with what the entry does to the store.
use Rattle.std.proofs.Common.{◌≡◌, ◌≢◌, ℕ, ◌++◌, true, List, [], ◌∷◌, None, Some, Option, Result, Ok, Err, drop, refl, sym, subst, ap, ◌∙◌, arith}
use Rattle.std.specs.Prelude.{slice_get, option_map, IfSome}
use Rattle.kept_chains.specs.Kept.{store_of}
use Rattle.kept_chains.specs.Standing.{StandsAsEither}
use Rattle.kept_chains.proofs.Commits.{still_moments}
use Rattle.server_log.specs.Said.{IsBy, follow_ups}
use Rattle.server_log.specs.Entered.{entry_of, next_known}
use Rattle.server_log.specs.Part.{Part, log_of, sender_of, state_of}
use Rattle.server_log.specs.declared.memory.entries.Entered.{Entered}
use Rattle.server_log.specs.declared.memory.done.LogDone.{LogDone}
use Rattle.pair_memory.specs.Crossed.{IsEntered}
use Rattle.pair_memory.specs.JobResult.{HoldsAt}
use Rattle.pair_memory.specs.PairMemory.{PairMemory, own_of}
use Rattle.pair_memory.specs.declared.error.WorkError.{WorkError}
use Rattle.pair_memory.specs.declared.error.WorkError.TheVariants.{Failed, NoRoom, NoMemory, Exhausted}
use Rattle.petal_command.specs.declared.command.Command.{Command}
use Rattle.petal_disk.specs.Disk.{LeavesOnly}
use Rattle.petal_disk.specs.declared.disk.Disk.{Ghosts}
use Rattle.spec_paxos.specs.declared.record.StateRecord.{StateRecord}
use Rattle.spec_rules.specs.Crossing.{crossed_by, jobs_by}
use Rattle.spec_rules.specs.Entries.{applies, applies_known, with_entry}
use Rattle.spec_rules.proofs.Applied.{state_append}
use Rattle.spec_rules.specs.State.{State}
use Rattle.spec_state.specs.Command.{after, state_after}
use Rattle.spec_rules.specs.Log.{Log}
use Rattle.spec_rules.specs.Server.{JobContext, PairState}
use Rattle.spec_rules.specs.Store.{Store}
use Rattle.spec_rules.specs.declared.job.Job.TheVariants as job
use Rattle.server_core.specs.ServerView.{ServerView, here_in, left_by_first}
use Rattle.server_core.specs.Work.{IsStoreWork}
use Rattle.server_core.proofs.Rooms.{few_marked}
use Rattle.server_core.proofs.Works.{entry_left, entry_logged, entry_worked}
use Rattle.server_store.specs.Holdings.{Holdings}

-- an entry that was applied makes the state after it
pub state_entered : (old new : Part) (records : List StateRecord) (done : LogDone) (entered : Option Entered)
    → IsBy (sender_of old) (log_of new records) done (applies (log_of old records)) → new.voter ≡ old.voter
    → option_map entry_of entered ≡ next_known old records → IfSome entered (λ it. it.before ≡ state_of old)
    → IfSome entered (λ it. state_of new ≡ after it.before it.entry)
unfolding applies
state_entered old new records done None by voter is before = tt
state_entered old new records done (Some it) by voter is before =
    let log : log_of new records ≡ with_entry (log_of old records) it.entry =
    by.log ∙ ap (λ (found : Option Command). (applies_known (log_of old records) found).log) (sym is) in
    let applied : new.applied ≡ old.applied ++ it.entry ∷ [] = ap (λ (l : Log). l.applied) log in
    (λ i. state_after (voter i).servers (applied i))
    ∙ sym (state_append old.voter.servers old.applied (it.entry ∷ []))
    ∙ ap (λ (s : State). after s it.entry) (sym before)

-- what an entry left, told with another value
module _ {D A B : Type 0} (device : Ghosts D) {here : JobContext} {entry : Option Command} {old new : PairMemory} {before after : Holdings D} where
  pub entered_with : (made : A) (done : B) → IsEntered device here entry old new before after (Ok made)
      → IsEntered device here entry old new before after (Ok done)
  entered_with made done is = record {
    own = is.own;
    keeps = is.keeps;
    holds = is.holds;
    moments = is.moments;
    kept = is.kept;
    stays = tt;
    errors = tt;
    cause = record { later = is.cause.later; failed = λ no. absurd (cc) };
    run = is.run;
  }

  pub entered_not : (e : WorkError) → IsEntered {T = A} device here entry old new before after (Err e)
      → IsEntered {T = B} device here entry old new before after (Err e)
  entered_not e is = record {
    own = tt;
    keeps = is.keeps;
    holds = λ _ _. tt;
    moments = is.moments;
    kept = is.kept;
    stays = is.stays;
    errors = is.errors;
    cause = record { later = is.cause.later; failed = λ _. is.cause.failed (ap Err is.errors) };
    run = is.run;
  }

module _ {D : Type 0} (device : Ghosts D) (records : List StateRecord) (old : ServerView) (before : Holdings D)
    (there : slice_get old.queue 0 ≡ Some job.Apply) where
  abbrev rule : PairState
  rule = crossed_by (here_in old) (next_known old.log records) (own_of old.side before)

  abbrev Leaves : Holdings D → Store → Type 0
  Leaves after left = LeavesOnly device.moment device.left_since before.disk after.disk (StandsAsEither before left)

  left_as : (after : Holdings D) → Leaves after rule.store → Leaves after (left_by_first old (store_of before) records).own.store
  left_as after = subst (Leaves after) (entry_left old (store_of before) records there)

  -- it is done as the rule says
  pub applied_work : {T : Type 0} (new : ServerView) (after : Holdings D) (made : T) (done : LogDone)
      → IsEntered device (here_in old) (next_known old.log records) old.side new.side before after (Ok made)
      → IsBy (sender_of old.log) (log_of new.log records) done (applies (log_of old.log records))
      → new.running ≡ old.running → new.log.voter ≡ old.log.voter
      → new.queue ≡ (drop 1 old.queue ++ follow_ups done) ++ jobs_by (here_in old).state (here_in old).me (next_known old.log records) (own_of old.side before)
      → IsStoreWork device records old new before after (Ok done.letters)
  applied_work new after made done entered by running voter queue = record {
    work = λ observed holds few_log.
        entry_worked old (store_of before) records there new (store_of after) done by running voter (entered.own observed) queue
        (few_marked device after (entered.holds observed holds)) few_log;
    logged = entry_logged old (store_of before) records there;
    life = (running, voter);
    keeps = entered.keeps;
    holds = entered.holds;
    moments = λ observed holds. left_as after (entered.moments observed holds);
    still = λ no. absurd (cc);
    same = λ no. absurd (cc);
    kept = tt;
    stays = tt;
    full = λ no. absurd (cc);
    spent = λ no. absurd (cc);
    cause = record { later = entered.cause.later; failed = λ no. absurd (cc) };
    run = entered.run;
  }

  -- the device failed in it
  pub applied_failed : {T : Type 0} (new : ServerView) (after : Holdings D) (e : WorkError) → e ≡ Failed
      → IsEntered {T = T} device (here_in old) (next_known old.log records) old.side new.side before after (Err e)
      → new.running ≡ old.running → new.log.voter ≡ old.log.voter
      → IsStoreWork device records old new before after (Err e)
  applied_failed new after e is entered running voter = record {
    work = tt;
    logged = entry_logged old (store_of before) records there;
    life = (running, voter);
    keeps = tt;
    holds = λ _ _. tt;
    moments = λ observed holds. left_as after (entered.moments observed holds);
    still = λ no. absurd (cc);
    same = λ no. absurd (cc);
    kept = entered.kept;
    stays = entered.stays;
    full = λ no. absurd (cc);
    spent = λ no. absurd (cc);
    cause = record { later = entered.cause.later; failed = λ _. entered.cause.failed (ap Err is) };
    run = entered.run;
  }

  module _ (stays : (d : D) → device.came_to d d) (only_now : (d : D) (c : List ℕ) → device.left_since d (device.moment d) c → device.may_leave d c) where
    same_moments : HoldsAt device before → Leaves before (left_by_first old (store_of before) records).own.store
    same_moments = still_moments device only_now before before (left_by_first old (store_of before) records).own.store refl

    -- there was no memory for it
    pub applied_nothing : (new : ServerView) → new ≡ old → IsStoreWork device records old new before before (Err NoMemory)
    applied_nothing new same = record {
      work = tt;
      logged = entry_logged old (store_of before) records there;
      life = (ap (λ (it : ServerView). it.running) same, ap (λ (it : ServerView). it.log.voter) same);
      keeps = tt;
      holds = λ _ _. tt;
      moments = λ _. same_moments;
      still = λ _ _ holds. holds;
      same = λ _. (same, refl);
      kept = λ _. refl;
      stays = refl;
      full = λ no. absurd (cc);
      spent = λ no. absurd (cc);
      cause = record { later = omega arith; failed = λ no. absurd (cc) };
      run = stays before.disk;
    }

    -- it was not done: the device failed, or there was no memory for it
    pub applied_not : {T : Type 0} (new : ServerView) (left : Holdings D) (e : WorkError)
        → (◌≢◌ {A = Result T WorkError} (Err e) (Err NoMemory)
        → IsEntered {T = T} device (here_in old) (next_known old.log records) old.side new.side before left (Err e))
        → (◌≡◌ {A = Result T WorkError} (Err e) (Err NoMemory) → (new.log ≡ old.log) × (new.side ≡ old.side) × (left ≡ before))
        → new.running ≡ old.running → new.log.voter ≡ old.log.voter → new.queue ≡ old.queue
        → IsStoreWork device records old new before left (Err e)
    applied_not new left Failed entered same running voter queue = applied_failed new left Failed refl (entered (λ no. absurd (cc))) running voter
    applied_not new left NoRoom entered same running voter queue = let e = (entered (λ no. absurd (cc))).errors in absurd (cc)
    applied_not new left NoMemory entered same running voter queue =
        let is = same refl in
        subst (λ (held : Holdings D). IsStoreWork device records old new before held (Err NoMemory)) (sym is.2)
        (applied_nothing new (λ i. record { running = running i; log = is.0 i; side = is.1 i; queue = queue i }))
    applied_not new left Exhausted entered same running voter queue = let e = (entered (λ no. absurd (cc))).errors in absurd (cc)
