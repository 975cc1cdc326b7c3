-- A job of the log that is refused.
use Rattle.std.proofs.Common.{◌≡◌, Some, Result, Err, refl, sym, ap, ◌∙◌}
use Rattle.std.specs.Prelude.{slice_get}
use Rattle.server_log.proofs.Said.{left_as}
use Rattle.server_log.specs.Done.{HoldsAt, IsLogDone}
use Rattle.server_log.specs.Part.{Part}
use Rattle.server_log.specs.declared.memory.done.LogDone.{LogDone}
use Rattle.pair_memory.specs.PairMemory.{PairMemory}
use Rattle.pair_memory.specs.declared.error.WorkError.{WorkError}
use Rattle.pair_memory.specs.declared.error.WorkError.TheVariants.{Failed, NoRoom, NoMemory, Exhausted}
use Rattle.petal_disk.specs.Disk.{LeavesOnly}
use Rattle.petal_disk.specs.declared.disk.Disk.{Ghosts}
use Rattle.spec_rules.specs.Log.{LogDone as Rule}
use Rattle.spec_rules.specs.Store.{Store}
use Rattle.spec_rules.specs.declared.job.Job.{Job}
use Rattle.server_core.specs.ServerView.{ServerView, left_by_first}
use Rattle.server_jobs.specs.Kind.{kind_of}
use Rattle.server_core.specs.Work.{IsFullLog, IsLogWork, of_state}
use Rattle.server_jobs.specs.Ballots.{log_rule}
use Rattle.server_jobs.specs.declared.queue.Kind.TheVariants.{OfLog}
use Rattle.server_core.proofs.Rooms.{full_records}
use Rattle.server_core.proofs.Works.{log_left, log_stops}
use Rattle.state_store.specs.Device.{Keeping, StandsForEither}
use Rattle.state_store.specs.declared.error.StateError.{StateError}
use Rattle.state_store.specs.declared.error.StateError.TheVariants as state

-- what a crash within a job of the log leaves, as what the first job of the queue leaves
pub log_moments : {D : Type 0} (device : Ghosts D) (store : Store) (old : ServerView) (before after : Keeping D) (first : Job)
    → slice_get old.queue 0 ≡ Some first → kind_of first ≡ OfLog
    → {new : Part} {result : Result LogDone StateError}
    → IsLogDone device old.log new before after result (log_rule old.log old.side store before.records first old.log.voter)
    → device.observable → HoldsAt device before
    → LeavesOnly device.moment device.left_since before.disk after.disk (StandsForEither before.records (left_by_first old store before.records).log.records)
log_moments device store old before after first there kind done observed holds =
    left_as device before.disk after.disk before.records _ _ (log_left old store before.records first there kind) (done.moments observed holds)

module _ {D : Type 0} (device : Ghosts D) (store : Store) (old new : ServerView) (before after : Keeping D) (first : Job)
    (there : slice_get old.queue 0 ≡ Some first) (kind : kind_of first ≡ OfLog)
    (running : new.running ≡ old.running) (side : new.side ≡ old.side) (queue : new.queue ≡ old.queue) where
  abbrev rule : Rule
  rule = log_rule old.log old.side store before.records first old.log.voter

  noted : new.side ≡ record old.side { copies = new.side.copies }
  noted = side ∙ ap (λ (s : PairMemory). record old.side { copies = s.copies }) (sym side)

  same_core : new.log ≡ old.log → new ≡ old
  same_core log = λ i. record { running = running i; log = log i; side = side i; queue = queue i }

  is_full : (e : StateError) → e ≡ state.JournalFull → IsLogDone device old.log new.log before after (Err e) rule → IsFullLog device store old new before after
  is_full e is done =
      let full = done.full (ap Err is) in
      record {
        count = full.count;
        same = (same_core full.same.0, full.same.1);
        stops = λ observed holds. log_stops old store before.records first there kind (full_records device before holds full.count _ full.over);
      }

  -- the job's refusal is told by that of the state store
  refused_as : (e : StateError) (w : WorkError) → (w ≡ Failed → e ≡ state.Failed) → (w ≡ NoRoom → e ≡ state.JournalFull)
      → (w ≡ NoMemory → e ≡ state.NoMemory) → (w ≡ Exhausted → e ≡ state.Exhausted) → IsLogDone device old.log new.log before after (Err e) rule
      → IsLogWork device store old new before after (Err w)
  refused_as e w failed full nothing spent done = record {
    work = tt;
    life = (running, done.voter);
    side = noted;
    holds = λ _ _. tt;
    moments = log_moments device store old before after first there kind done;
    same = λ is. let same = done.same (ap Err (nothing (cc))) in (same_core same.0, same.1);
    spent = λ is. let same = (done.spent (ap Err (spent (cc)))).same in (same_core same.0, same.1);
    kept = done.kept;
    full = λ is. is_full e (full (cc)) done;
    cause = record { later = done.later; failed = λ is. done.failed (ap Err (failed (cc))) };
    run = done.run;
  }

  pub refused_work : (e : StateError) → IsLogDone device old.log new.log before after (Err e) rule
      → IsLogWork device store old new before after (Err (of_state e))
  refused_work state.Failed done = refused_as state.Failed Failed (λ _. refl) (λ no. absurd (cc)) (λ no. absurd (cc)) (λ no. absurd (cc)) done
  refused_work state.Blank done = absurd (done.only)
  refused_work (state.BadRecord index) done = absurd (done.only)
  refused_work state.JournalFull done = refused_as state.JournalFull NoRoom (λ no. absurd (cc)) (λ _. refl) (λ no. absurd (cc)) (λ no. absurd (cc)) done
  refused_work state.NoMemory done = refused_as state.NoMemory NoMemory (λ no. absurd (cc)) (λ no. absurd (cc)) (λ _. refl) (λ no. absurd (cc)) done
  refused_work state.Exhausted done = refused_as state.Exhausted Exhausted (λ no. absurd (cc)) (λ no. absurd (cc)) (λ no. absurd (cc)) (λ _. refl) done
