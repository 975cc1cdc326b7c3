-- A job without a call of the device is one that may have made one.
use Rattle.std.proofs.Common.{◌≡◌, ◌<◌, ℕ, List, Result, Ok, Err, refl, sym, subst, ap, ◌∙◌, arith}
use Rattle.petal_disk.specs.declared.disk.Disk.{Ghosts}
use Rattle.spec_rules.specs.Server.{JobContext}
use Rattle.spec_rules.specs.Server as rules
use Rattle.spec_rules.specs.World.{greatest_u64}
use Rattle.kept_chains.specs.Holdings.{Holdings, kept_in}
use Rattle.kept_chains.proofs.Commits.{still_moments}
use Rattle.pair_memory.specs.declared.error.WorkError.{WorkError}
use Rattle.pair_memory.specs.declared.error.WorkError.TheVariants.{Failed, NoRoom, NoMemory, Exhausted}
use Rattle.pair_memory.specs.declared.job_result.JobResult.{JobResult}
use Rattle.pair_memory.specs.PairMemory.{PairMemory}
use Rattle.pair_memory.specs.JobResult.{HoldsAt, IsFull, IsSaid, IsSpent, IsDone, held}

module _ {D : Type 0} (device : Ghosts D) (stays : (d : D) → device.came_to d d)
    (only_now : (d : D) (c : List ℕ) → device.left_since d (device.moment d) c → device.may_leave d c) where
  -- where the device is as it was
  run_same : (old new : Holdings D) → new.disk ≡ old.disk → device.came_to old.disk new.disk
  run_same old new same = subst (device.came_to old.disk) (sym same) (stays old.disk)

  disk_is : (old new : Holdings D) → new ≡ record old { tickets = new.tickets } → new.disk ≡ old.disk
  disk_is old new is = ap (λ (s : Holdings D). s.disk) is

  entries_are : (old new : Holdings D) → new ≡ record old { tickets = new.tickets } → new.entries ≡ old.entries
  entries_are old new is = ap (λ (s : Holdings D). s.entries) is

  -- what the device shows is what it showed
  shown_still : (old new : Holdings D) → new ≡ record old { tickets = new.tickets } → HoldsAt device old → HoldsAt device new
  shown_still old new is holds = subst (HoldsAt device) (sym is) holds

  pub said_done : (here : JobContext) (old new : PairMemory) (old_store new_store : Holdings D) (answer : Result JobResult WorkError) (rule : rules.JobResult)
      → IsSaid here old new old_store new_store answer rule → IsDone device here (held old old_store) (held new new_store) answer rule
  said_done here old new old_store new_store (Ok out) rule said = record {
    done = λ _. said.done;
    keeps = said.keeps;
    holds = λ _. shown_still old_store new_store said.store;
    moments = λ _. still_moments device only_now old_store new_store rule.own.store (disk_is old_store new_store said.store);
    still = λ no. absurd (cc);
    same = λ no. absurd (cc);
    kept = tt;
    stays = tt;
    full = λ no. absurd (cc);
    spent = λ no. absurd (cc);
    cause = record { later = let same = ap device.faults (disk_is old_store new_store said.store) in omega (arith, same); failed = λ no. absurd (cc) };
    run = run_same old_store new_store (disk_is old_store new_store said.store);
  }
  said_done here old new old_store new_store (Err e) rule said = record {
    done = tt;
    keeps = tt;
    holds = λ _ _. tt;
    moments = λ _. still_moments device only_now old_store new_store rule.own.store (disk_is old_store new_store said.store);
    still = λ _ _. shown_still old_store new_store said.store;
    same = λ _. (said.err.1, said.err.2 ∙ ap (λ (s : Holdings D). record old_store { disk = s.disk }) (sym said.err.2));
    kept = λ _. entries_are old_store new_store said.store;
    stays = ap (λ (s : Holdings D). kept_in s) said.store;
    full = λ is. absurd (let e_is : e ≡ NoMemory = said.err.0 in cc);
    spent = λ is. absurd (let e_is : e ≡ NoMemory = said.err.0 in cc);
    cause = record {
      later = let same = ap device.faults (disk_is old_store new_store said.store) in omega (arith, same);
      failed = λ is. absurd (let e_is : e ≡ NoMemory = said.err.0 in cc);
    };
    run = run_same old_store new_store (disk_is old_store new_store said.store);
  }

  -- a job for whose mark there is no room
  pub full_done : (here : JobContext) (old new : PairMemory) (before after : Holdings D) (rule : rules.JobResult) → IsFull old new before after rule
      → IsDone device here (held old before) (held new after) (Err NoRoom) rule
  full_done here old new before after rule full =
      let disk : after.disk ≡ before.disk = ap (λ (s : Holdings D). s.disk) full.same.1 in
      record {
        done = tt;
        keeps = tt;
        holds = λ _ _. tt;
        moments = λ _. still_moments device only_now before after rule.own.store disk;
        still = λ no. absurd (cc);
        same = λ no. absurd (cc);
        kept = λ _. ap (λ (s : Holdings D). s.entries) full.same.1;
        stays = ap (λ (s : Holdings D). kept_in s) full.same.1;
        full = λ _. full;
        spent = λ no. absurd (cc);
        cause = record { later = let same = ap device.faults disk in omega (arith, same); failed = λ no. absurd (cc) };
        run = run_same before after disk;
      }

  -- a job for whose operation no number is left
  pub spent_done : (here : JobContext) (old new : PairMemory) (before after : Holdings D) (rule : rules.JobResult)
      → IsSpent device (held old before) (held new after) rule → after ≡ before
      → IsDone device here (held old before) (held new after) (Err Exhausted) rule
  spent_done here old new before after rule spent same =
      let disk : after.disk ≡ before.disk = ap (λ (s : Holdings D). s.disk) same in
      record {
        done = tt;
        keeps = tt;
        holds = λ _ _. tt;
        moments = λ _. still_moments device only_now before after rule.own.store disk;
        still = λ no. absurd (cc);
        same = λ no. absurd (cc);
        kept = λ _. ap (λ (s : Holdings D). s.entries) same;
        stays = ap (λ (s : Holdings D). kept_in s) same;
        full = λ no. absurd (cc);
        spent = λ _. spent;
        cause = record { later = let same = ap device.faults disk in omega (arith, same); failed = λ no. absurd (cc) };
        run = run_same before after disk;
      }

  -- all is as before, and the rule's next number is beyond the greatest
  pub all_spent : (old new : PairMemory) (before after : Holdings D) (rule : rules.JobResult) → new ≡ old → after ≡ before
      → greatest_u64 < rule.own.pairs.next → IsSpent device (held old before) (held new after) rule
  all_spent old new before after rule same kept next = record {
    next = λ _. next;
    same = (same, kept ∙ ap (λ (s : Holdings D). record before { disk = s.disk }) (sym kept));
  }

  -- a job that has either been said, or had no number left
  pub said_or_spent : (here : JobContext) (old new : PairMemory) (store : Holdings D) (answer : Result JobResult WorkError) (rule : rules.JobResult)
      → (¬ (answer ≡ Err Exhausted) → IsSaid here old new store store answer rule)
      → (answer ≡ Err Exhausted → (new ≡ old) × (greatest_u64 < rule.own.pairs.next))
      → IsDone device here (held old store) (held new store) answer rule
  said_or_spent here old new store (Ok out) rule said spent = said_done here old new store store (Ok out) rule (said (λ no. absurd (cc)))
  said_or_spent here old new store (Err Failed) rule said spent = said_done here old new store store (Err Failed) rule (said (λ no. absurd (cc)))
  said_or_spent here old new store (Err NoRoom) rule said spent =
      said_done here old new store store (Err NoRoom) rule (said (λ no. absurd (cc)))
  said_or_spent here old new store (Err NoMemory) rule said spent =
      said_done here old new store store (Err NoMemory) rule (said (λ no. absurd (cc)))
  said_or_spent here old new store (Err Exhausted) rule said spent =
      let none = spent refl in
      spent_done here old new store store rule (all_spent old new store store rule none.0 refl none.1) refl

-- what was said was not refused for its number
pub not_spent : {D : Type 0} (here : JobContext) (old new : PairMemory) (before after : Holdings D) (answer : Result JobResult WorkError)
    (rule : rules.JobResult) → IsSaid here old new before after answer rule → ¬ (answer ≡ Err Exhausted)
not_spent here old new before after (Ok out) rule said = λ no. absurd (cc)
not_spent here old new before after (Err e) rule said = λ is. let e_is : e ≡ NoMemory = said.err.0 in absurd (cc)

-- what was refused for memory left all as it was
pub all_same : {D : Type 0} (here : JobContext) (old new : PairMemory) (old_store new_store : Holdings D) (rule : rules.JobResult)
    → new ≡ old → new_store ≡ old_store
    → IsSaid here old new old_store new_store (Err NoMemory) rule
all_same here old new old_store new_store rule same held = rw (same, held) (record { done = tt; keeps = tt; err = (refl, refl, refl); store = refl })
