-- What a call below said or refused, as a job.
use Rattle.std.proofs.Common.{◌≡◌, ℕ, List, Result, Err, IsErrAnd, refl, sym, subst, ap, ◌∙◌}
use Rattle.std.proofs.lemmas.Result.{err_from_is_err_and}
use Rattle.petal_disk.specs.declared.disk.Disk.{Ghosts}
use Rattle.spec_rules.specs.Server.{JobContext}
use Rattle.spec_rules.specs.Server.{JobResult as Rule}
use Rattle.kept_chains.specs.Holdings.{Holdings}
use Rattle.kept_chains.specs.Marking.{IsCommit}
use Rattle.kept_chains.specs.Shown.{HoldsAt}
use Rattle.kept_chains.specs.StoreError.{StoreError}
use Rattle.kept_chains.specs.StoreError.TheVariants as store
use Rattle.pair_memory.specs.declared.error.WorkError.{WorkError}
use Rattle.pair_memory.specs.declared.error.WorkError.TheVariants.{NoMemory}
use Rattle.pair_memory.specs.declared.job_result.JobResult.{JobResult}
use Rattle.pair_memory.specs.PairMemory.{PairMemory}
use Rattle.pair_memory.specs.JobResult.{IsDone, IsSaid, held}
use Rattle.pair_memory.specs.Refusals.{work_error}
use Rattle.pair_memory.proofs.Said.{all_same, said_done}

module _ {D : Type 0} (device : Ghosts D) (stays : (d : D) → device.came_to d d)
    (only_now : (d : D) (c : List ℕ) → device.left_since d (device.moment d) c → device.may_leave d c) where
  -- what was said of a rule that is this one
  pub said_as : (here : JobContext) (old new : PairMemory) (before after : Holdings D) (answer : Result JobResult WorkError) (rule rule' : Rule)
      → IsSaid here old new before after answer rule → rule ≡ rule'
      → IsDone device here (held old before) (held new after) answer rule'
  said_as here old new before after answer rule rule' said same =
      subst (λ (r : Rule). IsDone device here (held old before) (held new after) answer r) same
      (said_done device stays only_now here old new before after answer rule said)

  -- an exit for memory, before anything changed
  pub refused : (here : JobContext) (side : PairMemory) (before : Holdings D) (answer : Result JobResult WorkError) (rule : Rule)
      → IsErrAnd answer (λ e. e ≡ NoMemory) → IsDone device here (held side before) (held side before) answer rule
  refused here side before answer rule is =
      let error = err_from_is_err_and answer is in
      rw (error.1, error.2)
      (said_done device stays only_now here side side before before (Err NoMemory) rule (all_same here side side before before rule refl refl))

-- a commit that was refused
pub commit_refused : {D T : Type 0} (device : Ghosts D) (here : JobContext) (side : PairMemory) (before after : Holdings D) (e : StoreError) (rule : Rule)
    → IsCommit {T = T} device before after (Err e) rule.own.store
    → IsDone device here (held side before) (held side after) (Err (work_error e)) rule
commit_refused device here side before after store.Failed rule commit = record {
  done = tt;
  keeps = tt;
  holds = λ _ _. tt;
  moments = commit.moments;
  still = λ no. absurd (cc);
  same = λ no. absurd (cc);
  kept = commit.kept;
  stays = commit.stays;
  full = λ no. absurd (cc);
  spent = λ no. absurd (cc);
  cause = record { later = commit.cause.later; failed = λ _. commit.cause.failed refl };
  run = commit.run;
}
commit_refused device here side before after store.MarksFull rule commit =
    let full = commit.full refl in
    record {
      done = tt;
      keeps = tt;
      holds = λ _ _. tt;
      moments = commit.moments;
      still = λ no. absurd (cc);
      same = λ no. absurd (cc);
      kept = commit.kept;
      stays = commit.stays;
      full = λ _. record { count = full.count; over = full.over; same = (refl, full.same) };
      spent = λ no. absurd (cc);
      cause = record { later = commit.cause.later; failed = λ no. absurd (cc) };
      run = commit.run;
    }
commit_refused {D = D} device here side before after store.NoMemory rule commit =
    let same = commit.memory refl in
    record {
      done = tt;
      keeps = tt;
      holds = λ _ _. tt;
      moments = commit.moments;
      still = λ _ _ holds. subst (HoldsAt device) (sym same) holds;
      same = λ _. (refl, same ∙ ap (λ (s : Holdings D). record before { disk = s.disk }) (sym same));
      kept = commit.kept;
      stays = commit.stays;
      full = λ no. absurd (cc);
      spent = λ no. absurd (cc);
      cause = record { later = commit.cause.later; failed = λ no. absurd (cc) };
      run = commit.run;
    }
commit_refused device here side before after store.NoSpace rule commit = absurd (commit.errors)
commit_refused device here side before after (store.BadRecord index) rule commit = absurd (commit.errors)
