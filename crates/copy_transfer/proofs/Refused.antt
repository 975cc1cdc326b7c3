-- Jobs that were refused.
use Rattle.std.proofs.Common.{◌≡◌, ◌<◌, ℕ, Bool, true, false, List, Err, refl, subst}
use Rattle.petal_disk.specs.declared.disk.Disk.{Ghosts}
use Rattle.petal_msg.specs.declared.copying.LastCopy.{LastCopy}
use Rattle.spec_rules.specs.Copies.{Entry}
use Rattle.spec_rules.specs.Server.{JobContext, PairState}
use Rattle.spec_rules.specs.Server.{JobResult as Rule}
use Rattle.spec_rules.specs.Store.{Store}
use Rattle.server_store.specs.StoreError.{StoreError}
use Rattle.server_store.specs.StoreError.TheVariants as store
use Rattle.server_store.specs.Holdings.{Holdings}
use Rattle.kept_chains.specs.Kept.{store_of}
use Rattle.kept_chains.specs.Marking.{IsChange}
use Rattle.pair_memory.specs.declared.error.WorkError.TheVariants.{Failed, NoMemory}
use Rattle.pair_memory.specs.JobResult.{Held, IsDone, held}
use Rattle.pair_memory.specs.PairMemory.{PairMemory, own_of}
use Rattle.pair_memory.specs.Refusals.{work_error}
use Rattle.pair_memory.specs.Slots.{with_new}
use Rattle.pair_memory.proofs.Said.{all_same, full_done, said_done}
use Rattle.copy_transfer.specs.Entries.{put_as}

-- the store of the rule is the one that is put into
stored_as : (own : PairState) (entry : Entry) (next : LastCopy) (holder : ℕ) (room : Bool)
    → with_new own.store entry.key entry.stored room ≡ (put_as own entry next holder room).own.store
stored_as own entry next holder true = refl
stored_as own entry next holder false = refl

module _ {D T : Type 0} (device : Ghosts D) (stays : (d : D) → device.came_to d d)
    (only_now : (d : D) (c : List ℕ) → device.left_since d (device.moment d) c → device.may_leave d c) (here : JobContext) (side : PairMemory)
    (old new : Holdings D) where
  refused : (e : StoreError) (rule : Rule) → IsChange {T = T} device old new (Err e) rule.own.store
      → IsDone device here (held side old) (held side new) (Err (work_error e)) rule
  refused store.Failed rule change = record {
    done = tt;
    keeps = tt;
    holds = λ _ _. tt;
    moments = change.moments;
    still = λ no. absurd (cc);
    same = λ no. absurd (cc);
    kept = change.kept;
    stays = change.stays;
    full = λ no. absurd (cc);
    spent = λ no. absurd (cc);
    cause = record { later = change.cause.later; failed = λ _. change.cause.failed refl };
    run = change.run;
  }
  refused store.MarksFull rule change =
      let full = change.full refl in
      full_done device stays only_now here side side old new rule (record { count = full.count; over = full.over; same = (refl, full.same) })
  refused store.NoMemory rule change =
      said_done device stays only_now here side side old new (Err NoMemory) rule (all_same here side side old new rule refl (change.memory refl))
  refused store.NoSpace rule change = absurd change.errors
  refused (store.BadRecord index) rule change = absurd change.errors

  pub put_refused : (e : StoreError) (entry : Entry) (next : LastCopy) (holder : ℕ) (room : Bool)
      → IsChange {T = T} device old new (Err e) (with_new (store_of old) entry.key entry.stored room)
      → IsDone device here (held side old) (held side new) (Err (work_error e)) (put_as (own_of side old) entry next holder room)
  put_refused e entry next holder room change =
      refused e (put_as (own_of side old) entry next holder room)
      (subst (λ (s : Store). IsChange {T = T} device old new (Err e) s) (stored_as (own_of side old) entry next holder room) change)

-- what failed in place of being refused for memory
pub failed_as : {D : Type 0} (device : Ghosts D) (here : JobContext) (before after : Held D) (rule : Rule) → IsDone device here before after (Err NoMemory) rule
    → device.faults before.store.disk < device.faults after.store.disk → IsDone device here before after (Err Failed) rule
failed_as device here before after rule none fault = record {
  done = tt;
  keeps = tt;
  holds = λ _ _. tt;
  moments = none.moments;
  still = λ no. absurd (cc);
  same = λ no. absurd (cc);
  kept = none.kept;
  stays = none.stays;
  full = λ no. absurd (cc);
  spent = λ no. absurd (cc);
  cause = record { later = none.cause.later; failed = λ _. fault };
  run = none.run;
}
