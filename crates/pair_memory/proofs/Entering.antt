-- An entry of the log, with the commit of a store that waits no more.
use Rattle.std.proofs.Common.{◌≡◌, Bool, true, false, ℕ, None, Some, List, Result, Ok, Err, refl, sym, subst, ap, ◌∙◌, arith}
use Rattle.std.specs.Prelude.{if◌then◌else◌}
use Rattle.kept_chains.specs.StoreError.{StoreError}
use Rattle.kept_chains.specs.StoreError.TheVariants as store
use Rattle.petal_command.specs.declared.command.Command.{Command}
use Rattle.petal_disk.specs.Disk.{LeavesOnly}
use Rattle.petal_disk.specs.declared.disk.Disk.{Ghosts}
use Rattle.spec_rules.specs.Crossing.{crossed, crossed_by, is_blank_join}
use Rattle.spec_rules.specs.Server.{JobContext, PairState}
use Rattle.spec_rules.specs.Store.{Store, settled}
use Rattle.kept_chains.specs.Holdings.{Holdings, kept_in}
use Rattle.kept_chains.proofs.Commits.{still_moments}
use Rattle.kept_chains.specs.Kept.{store_of}
use Rattle.kept_chains.specs.Marking.{IsCommit}
use Rattle.kept_chains.specs.Standing.{StandsAsEither}
use Rattle.pair_memory.specs.Crossed.{IsCrossed, IsEntered}
use Rattle.pair_memory.specs.JobResult.{HoldsAt}
use Rattle.pair_memory.specs.PairMemory.{PairMemory, HasTicketsAt, own_of}
use Rattle.pair_memory.specs.declared.error.WorkError.TheVariants.{Failed}

-- the own part with a store that waits no more
abbrev settled_own : PairState → PairState
settled_own own = record own { store = settled own.store }

module _ {D : Type 0} (device : Ghosts D) (stays : (d : D) → device.came_to d d)
    (only_now : (d : D) (c : List ℕ) → device.left_since d (device.moment d) c → device.may_leave d c)
    (here : JobContext) (entry : Command) (old new : PairMemory) (before mid : Holdings D)
    (cross : IsCrossed here.state entry old new before mid) where
  abbrev rule : PairState
  rule = crossed_by here (Some entry) (own_of old before)

  same_disk : mid.disk ≡ before.disk
  same_disk = ap (λ (s : Holdings D). s.disk) cross.store

  mid_holds : HoldsAt device before → HoldsAt device mid
  mid_holds holds = subst (HoldsAt device) (sym cross.store) holds

  -- any other entry makes no call of the device
  module _ (other : is_blank_join entry here.me here.inc ≡ false) where
    plain : crossed here.state entry (own_of old before) ≡ rule
    plain =
        sym (ap (λ (b : Bool). if b then settled_own (crossed here.state entry (own_of old before)) else crossed here.state entry (own_of old before)) other)

    pub entered_plain : {T : Type 0} (done : T) → IsEntered device here (Some entry) old new before mid (Ok done)
    entered_plain done = record {
      own = λ _. cross.own ∙ plain;
      keeps = cross.keeps;
      holds = λ _. mid_holds;
      moments = λ _. still_moments device only_now before mid rule.store same_disk;
      kept = λ _. ap (λ (s : Holdings D). s.entries) cross.store;
      stays = tt;
      errors = tt;
      cause = record { later = let same = ap device.faults same_disk in omega (arith, same); failed = λ no. absurd (cc) };
      run = subst (device.came_to before.disk) (sym same_disk) (stays before.disk);
    }

  -- with its own Join the store is settled
  module _ (after : Holdings D) (blank : is_blank_join entry here.me here.inc ≡ true) where
    ruled : settled_own (own_of new mid) ≡ rule
    ruled = ap settled_own cross.own
        ∙ sym (ap (λ (b : Bool). if b then settled_own (crossed here.state entry (own_of old before)) else crossed here.state entry (own_of old before)) blank)

    abbrev Leaves : Holdings D → Type 0
    Leaves m = LeavesOnly device.moment device.left_since m.disk after.disk (StandsAsEither m (settled (store_of m)))

    moments_of : Leaves mid → LeavesOnly device.moment device.left_since before.disk after.disk (StandsAsEither before rule.store)
    moments_of left =
        subst (λ (s : Store). LeavesOnly device.moment device.left_since before.disk after.disk (StandsAsEither before s))
        (ap (λ (own : PairState). own.store) ruled)
        (subst (λ (m : Holdings D). LeavesOnly device.moment device.left_since m.disk after.disk (StandsAsEither m (settled (store_of mid))))
        cross.store left)

    keeps_of : {R : Type 0} {result : Result R StoreError} → IsCommit device mid after result (settled (store_of mid)) → HasTicketsAt new after
    keeps_of commit = rw commit.tickets cross.keeps

    kept_of : {R : Type 0} {result : Result R StoreError} → IsCommit device mid after result (settled (store_of mid)) → device.observable
        → after.entries ≡ before.entries
    kept_of commit observed = commit.kept observed ∙ ap (λ (s : Holdings D). s.entries) cross.store

    run_of : {R : Type 0} {result : Result R StoreError} → IsCommit device mid after result (settled (store_of mid)) → device.came_to before.disk after.disk
    run_of commit = subst (λ (d : D). device.came_to d after.disk) same_disk commit.run

    pub entered_settled : {T : Type 0} (done : T) → IsCommit device mid after (Ok done) (settled (store_of mid))
        → IsEntered device here (Some entry) old new before after (Ok done)
    entered_settled done commit = record {
      own = λ observed. ap (λ (s : Store). record (own_of new mid) { store = s }) (commit.done observed) ∙ ruled;
      keeps = keeps_of commit;
      holds = λ observed holds. commit.holds observed (mid_holds holds);
      moments = λ observed holds. moments_of (commit.moments observed (mid_holds holds));
      kept = kept_of commit;
      stays = tt;
      errors = tt;
      cause = record {
        later = let same = ap device.faults same_disk in let later = commit.cause.later in
            omega (arith, same, later);
        failed = λ no. absurd (cc);
      };
      run = run_of commit;
    }

    -- and a device that failed in it failed
    pub entered_failed : {T R : Type 0} (e : StoreError) → e ≡ store.Failed → IsCommit {T = R} device mid after (Err e) (settled (store_of mid))
        → IsEntered {T = T} device here (Some entry) old new before after (Err Failed)
    entered_failed e is commit = record {
      own = tt;
      keeps = keeps_of commit;
      holds = λ _ _. tt;
      moments = λ observed holds. moments_of (commit.moments observed (mid_holds holds));
      kept = kept_of commit;
      stays = commit.stays ∙ ap (λ (s : Holdings D). kept_in s) cross.store;
      errors = refl;
      cause = record {
        later = let same = ap device.faults same_disk in let later = commit.cause.later in omega (arith, same, later);
        failed = λ _. let same = ap device.faults same_disk in let failed = commit.cause.failed (ap Err is) in omega (arith, same, failed);
      };
      run = run_of commit;
    }

-- where no entry is known nothing is done
pub entered_nothing : {D T : Type 0} (device : Ghosts D) → ((d : D) → device.came_to d d)
    → ((d : D) (c : List ℕ) → device.left_since d (device.moment d) c → device.may_leave d c)
    → (here : JobContext) (side : PairMemory) (held : Holdings D) (done : T) → HasTicketsAt side held
    → IsEntered device here None side side held held (Ok done)
entered_nothing device stays only_now here side held done keeps = record {
  own = λ _. refl;
  keeps = keeps;
  holds = λ _ holds. holds;
  moments = λ _. still_moments device only_now held held (store_of held) refl;
  kept = λ _. refl;
  stays = tt;
  errors = tt;
  cause = record { later = omega arith; failed = λ no. absurd (cc) };
  run = stays held.disk;
}
