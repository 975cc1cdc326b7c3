-- A mark that was refused.
use Rattle.std.proofs.Common.{◌≡◌, Err, refl, sym, subst, ap, ◌∙◌}
use Rattle.std.specs.Result.{IsErrOf}
use Rattle.petal_disk.specs.declared.disk.Disk.{Ghosts}
use Rattle.spec_rules.specs.Server.{Copies, JobContext, JobResult}
use Rattle.server_store.specs.declared.StoreError.{StoreError}
use Rattle.server_store.specs.declared.StoreError.TheVariants as store
use Rattle.server_store.specs.Errors.{IsMarkError}
use Rattle.server_store.specs.Holdings.{Holdings}
use Rattle.kept_chains.specs.Marking.{IsCommit}
use Rattle.pair_memory.specs.declared.job_result.JobResult.{JobResult as Left}
use Rattle.pair_memory.specs.declared.error.WorkError.{WorkError}
use Rattle.pair_memory.specs.declared.error.WorkError.TheVariants.{Failed, NoRoom, NoMemory, Exhausted}
use Rattle.pair_memory.specs.JobResult.{HoldsAt, IsDone, held}
use Rattle.pair_memory.specs.Refusals.{work_error}
use Rattle.pair_memory.specs.PairMemory.{PairMemory}

err_is : (a b : WorkError) → IsErrOf {T = Left} (Err a) b → a ≡ b
err_is a b is = cc

memory_is : (e : StoreError) → IsMarkError e → work_error e ≡ NoMemory → e ≡ store.NoMemory
memory_is store.Failed may is = absurd (cc)
memory_is store.NoSpace may is = absurd may
memory_is store.MarksFull may is = absurd (cc)
memory_is (store.BadRecord index) may is = absurd may
memory_is store.NoMemory may is = refl

full_is : (e : StoreError) → IsMarkError e → work_error e ≡ NoRoom → e ≡ store.MarksFull
full_is store.Failed may is = absurd (cc)
full_is store.NoSpace may is = absurd may
full_is store.MarksFull may is = refl
full_is (store.BadRecord index) may is = absurd may
full_is store.NoMemory may is = absurd (cc)

failed_is : (e : StoreError) → IsMarkError e → work_error e ≡ Failed → e ≡ store.Failed
failed_is store.Failed may is = refl
failed_is store.NoSpace may is = absurd may
failed_is store.MarksFull may is = absurd (cc)
failed_is (store.BadRecord index) may is = absurd may
failed_is store.NoMemory may is = absurd (cc)

spent_not : (e : StoreError) → ¬ (work_error e ≡ Exhausted)
spent_not store.Failed = λ no. absurd (cc)
spent_not store.NoSpace = λ no. absurd (cc)
spent_not store.MarksFull = λ no. absurd (cc)
spent_not (store.BadRecord index) = λ no. absurd (cc)
spent_not store.NoMemory = λ no. absurd (cc)

-- a job whose one commit was refused, and whose side is as before
refused_done : {D T : Type 0} (device : Ghosts D) (here : JobContext) (old new : PairMemory) (before after : Holdings D) (e : StoreError) (rule : JobResult)
    → new ≡ old
    → IsCommit {T = T} device before after (Err e) rule.own.store → IsDone device here (held old before) (held new after) (Err (work_error e)) rule
refused_done {D = D} device here old new before after e rule same commit = record {
  done = tt;
  keeps = tt;
  holds = λ _ _. tt;
  moments = commit.moments;
  still = λ is observed holds. subst (HoldsAt device) (sym (commit.memory (ap Err (memory_is e commit.errors (err_is (work_error e) NoMemory is))))) holds;
  same = λ is.
      (let kept = commit.memory (ap Err (memory_is e commit.errors (err_is (work_error e) NoMemory is))) in
      (same, kept ∙ ap (λ (s : Holdings D). record before { disk = s.disk }) (sym kept)));
  kept = commit.kept;
  stays = commit.stays;
  full = λ is.
      (let full = commit.full (ap Err (full_is e commit.errors (err_is (work_error e) NoRoom is))) in
      record { count = full.count; over = full.over; same = (same, full.same) });
  spent = λ is. absurd (spent_not e (err_is (work_error e) Exhausted is));
  cause = record {
    later = commit.cause.later;
    failed = λ is. commit.cause.failed (ap Err (failed_is e commit.errors (err_is (work_error e) Failed is)));
  };
  run = commit.run;
}

-- what the side has of copies is as before
pub refused_page : {D T : Type 0} (device : Ghosts D) (here : JobContext) (old : PairMemory) (copies : Copies) (before after : Holdings D)
    (e : StoreError) (rule : JobResult)
    → copies ≡ old.copies → IsCommit {T = T} device before after (Err e) rule.own.store
    → IsDone device here (held old before) (held (record old { copies = copies }) after) (Err (work_error e)) rule
refused_page device here old copies before after e rule same commit =
    refused_done device here old (record old { copies = copies }) before after e rule (λ i. record old { copies = same i }) commit
