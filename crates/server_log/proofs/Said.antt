-- A job of the log without a call of the device is one that may have made one.
use Rattle.std.proofs.Common.{◌≡◌, inl, inr, ℕ, ◌+◌, ◌≤◌, ◌<◌, Bool, true, false, if◌then◌else◌, List, [], ◌∷◌, ◌++◌, length, length-append}
use Rattle.std.proofs.Common.{Result, Ok, Err, IsErrOf, refl, sym, subst, ap, ◌∙◌, arith}
use Rattle.petal_disk.specs.declared.disk.Disk.{Ghosts}
use Rattle.petal_disk.specs.Disk.{LeavesOnly}
use Rattle.petal_disk.proofs.Moments.{started}
use Rattle.spec_paxos.proofs.Committed.{commits_is}
use Rattle.spec_paxos.specs.Kept.{AddsNothing, committed}
use Rattle.spec_paxos.specs.declared.record.StateRecord.{StateRecord}
use Rattle.spec_rules.specs.Log.{Log, commits}
use Rattle.spec_rules.specs.Log.{LogDone as Rule}
use Rattle.state_store.specs.Body.{HasBody}
use Rattle.state_store.specs.Errors.{IsCommitError}
use Rattle.state_store.specs.Device.{Keeping, StandsForEither}
use Rattle.state_store.specs.declared.error.StateError.{StateError}
use Rattle.state_store.specs.declared.error.StateError.TheVariants.{Failed, Blank, BadRecord, JournalFull, NoMemory, Exhausted}
use Rattle.server_log.specs.declared.memory.done.LogDone.{LogDone}
use Rattle.server_log.specs.Part.{Part}
use Rattle.server_log.specs.Said.{IsLogSaid}
use Rattle.server_log.specs.Done.{HoldsAt, IsLogDone, IsLogError}
use Rattle.petal_base.specs.Limits.{journal_records}

-- a commit was refused for what the job was refused for
refusal_is : {T : Type 0} (answer : Result LogDone StateError) (refusal : Result T StateError) (e f : StateError)
    → answer ≡ Err e → refusal ≡ Err e → answer ≡ Err f → IsErrOf refusal f
refusal_is answer refusal e f one refused is = cc

-- a commit is refused for nothing else than a job
log_error : (e : StateError) → IsCommitError e → IsLogError e
log_error Failed is = is
log_error Blank is = is
log_error (BadRecord index) is = is
log_error JournalFull is = is
log_error NoMemory is = is
log_error Exhausted is = absurd is

module _ {D : Type 0} (device : Ghosts D) where
  -- what a crash leaves, where a commit makes the records after it
  pub left_as : (old new : D) (records made after : List StateRecord) → made ≡ after
      → LeavesOnly device.moment device.left_since old new (StandsForEither records made)
      → LeavesOnly device.moment device.left_since old new (StandsForEither records after)
  left_as old new records made after is =
      subst (λ (left : List StateRecord). LeavesOnly device.moment device.left_since old new (StandsForEither records left)) is

  module _ (stays : (d : D) → device.came_to d d)
      (only_now : (d : D) (c : List ℕ) → device.left_since d (device.moment d) c → device.may_leave d c) where
    pub still_left : (store : Keeping D) (after : List StateRecord) → HoldsAt device store
        → LeavesOnly device.moment device.left_since store.disk store.disk (StandsForEither store.records after)
    still_left store after holds =
        started device.moment device.left_since store.disk (StandsForEither store.records after) (λ c left. inl (holds.left c (only_now store.disk c left)))

    pub said_done : (old new : Part) (store : Keeping D) (answer : Result LogDone StateError) (rule : Rule)
        → IsLogSaid old new store.records answer rule → IsLogDone device old new store store answer rule
    said_done old new store (Ok out) rule said = record {
      done = said.done;
      voter = said.voter;
      holds = λ _ h. h;
      moments = λ _. still_left store rule.log.records;
      kept = tt;
      same = λ no. absurd (cc);
      only = tt;
      full = λ no. absurd (cc);
      spent = λ no. absurd (cc);
      later = omega arith;
      failed = λ no. absurd (cc);
      run = stays store.disk;
    }
    said_done old new store (Err e) rule said =
        let e_is : e ≡ NoMemory = said.err.0 in
        rw e_is (record {
          done = tt;
          voter = said.voter;
          holds = λ _ _. tt;
          moments = λ _. still_left store rule.log.records;
          kept = refl;
          same = λ _. (said.err.1, refl);
          only = tt;
          full = λ no. absurd (cc);
          spent = λ no. absurd (cc);
          later = omega arith;
          failed = λ no. absurd (cc);
          run = stays store.disk;
        })

    -- a job whose record has no spelling leaves all as it was
    pub spent_done : (part : Part) (store : Keeping D) (entry : StateRecord) (rule : Rule) → ¬ HasBody entry
        → rule.log.records ≡ committed store.records entry → IsLogDone device part part store store (Err Exhausted) rule
    spent_done part store entry rule unspelled records = record {
      done = tt;
      voter = refl;
      holds = λ _ _. tt;
      moments = λ _. still_left store rule.log.records;
      kept = refl;
      same = λ no. absurd (cc);
      only = tt;
      full = λ no. absurd (cc);
      spent = λ _. record { entry = entry; unspelled = unspelled; records = records; same = (refl, refl) };
      later = omega arith;
      failed = λ no. absurd (cc);
      run = stays store.disk;
    }

  -- a commit that was refused leaves what a refused job leaves, where it makes the records of the rule. A full journal has no
  -- room for a record that is needed (X)
  pub refused_done : {T X : Type 0} (part : Part) (before after : Keeping D) (made : List StateRecord) (e : StateError) (rule : Rule)
      → made ≡ rule.log.records → (X → length made ≡ length before.records + 1)
      → (refusal : Result T StateError) → refusal ≡ Err e
      → (IsErrOf refusal JournalFull → (before.region.count ≡ journal_records) × X × (after ≡ before))
      → (IsErrOf refusal NoMemory → after ≡ before)
      → (IsErrOf refusal Failed → device.faults before.disk < device.faults after.disk)
      → after.records ≡ before.records → IsCommitError e
      → (device.observable → HoldsAt device before
      → LeavesOnly device.moment device.left_since before.disk after.disk (StandsForEither before.records made))
      → device.faults before.disk ≤ device.faults after.disk → device.came_to before.disk after.disk
      → IsLogDone device part part before after (Err e) rule
  refused_done part before after made e rule is over refusal refused full memory failed kept only left later run = record {
    done = tt;
    voter = refl;
    holds = λ _ _. tt;
    moments = λ observed holds. left_as before.disk after.disk before.records made rule.log.records is (left observed holds);
    kept = kept;
    same = λ out. (refl, memory (refusal_is _ refusal e NoMemory refl refused out));
    only = log_error e only;
    spent = λ out. let is : e ≡ Exhausted = cc in absurd (subst IsCommitError is only);
    full = λ out.
        let held = full (refusal_is _ refusal e JournalFull refl refused out) in
        record { count = held.0; over = ap (λ (rs : List StateRecord). length rs) (sym is) ∙ over held.1; same = (refl, held.2) };
    later = later;
    failed = λ out. failed (refusal_is _ refusal e Failed refl refused out);
    run = run;
  }

-- a record that changes what the others stand for is one more
pub one_over : (records : List StateRecord) (entry : StateRecord) → ¬ AddsNothing records entry → length (committed records entry) ≡ length records + 1
one_over records entry changes =
    let is = commits_is records (records ++ entry ∷ []) entry (inr (changes, refl)) in
    sym (ap (λ (rs : List StateRecord). length rs) is) ∙ length-append records (entry ∷ [])

pub open_over : (records : List StateRecord) (b : Bool) (entry : StateRecord) → b ≡ true → ¬ AddsNothing records entry
    → length (if b then committed records entry else records) ≡ length records + 1
open_over records b entry is changes = rw is (one_over records entry changes)

-- the records after a promise or an acceptance that may be refused
pub open_records : (log : Log) (b : Bool) (entry : StateRecord)
    → (if b then committed log.records entry else log.records) ≡ (if b then commits log entry else log).records
open_records log true entry = refl
open_records log false entry = refl
