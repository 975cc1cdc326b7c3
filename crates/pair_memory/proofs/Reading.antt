-- A read leaves all but the device's state as it was.
use Rattle.std.proofs.Common.{◌≡◌, ◌≤◌, ◌<◌, ◌∙◌, inl, inr, ℕ, List, Result, Ok, Err, ap, subst, sym, arith}
use Rattle.std.proofs.lemmas.Result.{IfOk-weaker, on_err_weaker}
use Rattle.kept_chains.proofs.Commits.{stands_left}
use Rattle.kept_chains.specs.Standing.{StandsAsEither}
use Rattle.petal_base.specs.Limits.{marks_limit}
use Rattle.petal_disk.proofs.Moments.{joined}
use Rattle.petal_disk.specs.Disk.{LeavesOnly}
use Rattle.petal_disk.specs.Keeping.{KeepsDevice}
use Rattle.petal_disk.specs.declared.disk.Disk.{Ghosts}
use Rattle.spec_rules.specs.Server.{JobContext}
use Rattle.spec_rules.specs.Server as rules
use Rattle.spec_rules.specs.Store.{Store, marked_by}
use Rattle.spec_rules.specs.World.{greatest_u64}
use Rattle.kept_chains.specs.Holdings.{Holdings, kept_in, marked_in}
use Rattle.kept_chains.specs.Kept.{store_of}
use Rattle.pair_memory.specs.declared.error.WorkError.{WorkError}
use Rattle.pair_memory.specs.declared.error.WorkError.TheVariants.{NoMemory}
use Rattle.pair_memory.specs.declared.job_result.JobResult.{JobResult}
use Rattle.pair_memory.specs.PairMemory.{PairMemory, own_of}
use Rattle.pair_memory.specs.JobResult.{HoldsAt, IsBy, IsDone, IsSaid, held}

module _ {D : Type 0} (device : Ghosts D) (only_now : (d : D) (c : List ℕ) → device.left_since d (device.moment d) c → device.may_leave d c) where
  -- a device that is kept leaves the store as it is, at any moment
  pub kept_moments : (old new : Holdings D) (rule : Store)
      → KeepsDevice device.size device.seen device.may_leave device.moment device.left_since old.disk new.disk → HoldsAt device old
      → LeavesOnly device.moment device.left_since old.disk new.disk (StandsAsEither old rule)
  kept_moments old new rule keeps holds =
      let stands : (c : List ℕ) → device.may_leave old.disk c
      → StandsAsEither old rule c = λ c left. inl (stands_left device old holds c left) in
      record {
        later = keeps.later;
        each = λ c left. elim (keeps.nothing_new (device.moment old.disk) c (omega arith) left) [
          | inl was ↦ stands c (only_now old.disk c was)
          | inr now ↦ stands c now
        ];
        before = λ t c le left. elim (keeps.nothing_new t c le left) [
          | inl was ↦ inl was
          | inr now ↦ inr (stands c now)
        ];
      }

  module _ (here : JobContext) (side after : PairMemory) (old new : Holdings D) (same : new ≡ record old { disk = new.disk })
      (keeps : KeepsDevice device.size device.seen device.may_leave device.moment device.left_since old.disk new.disk)
      (shown : device.observable → HoldsAt device old → HoldsAt device new) (run : device.came_to old.disk new.disk) where
    -- what is said after a read is a job from before it
    pub after_read : (result : Result JobResult WorkError) (rule rule' : rules.JobResult) → device.faults old.disk ≤ device.faults new.disk
        → (device.observable → rule ≡ rule') → IsSaid here side after new new result rule → IsDone device here (held side old) (held after new) result rule'
    after_read (Ok out) rule rule' later is said = record {
      done = λ t. subst (λ (r : rules.JobResult). IsBy here (own_of after new) out r) (is t) said.done;
      keeps = said.keeps;
      holds = shown;
      moments = λ _. kept_moments old new rule'.own.store keeps;
      still = λ no. absurd (cc);
      same = λ no. absurd (cc);
      kept = tt;
      stays = tt;
      full = λ no. absurd (cc);
      spent = λ no. absurd (cc);
      cause = record { later = later; failed = λ no. absurd (cc) };
      run = run;
    }
    after_read (Err e) rule rule' later is said = record {
      done = tt;
      keeps = tt;
      holds = λ _ _. tt;
      moments = λ _. kept_moments old new rule'.own.store keeps;
      still = λ _. shown;
      same = λ _. (said.err.1, same);
      kept = λ _. ap (λ (s : Holdings D). s.entries) same;
      stays = ap (λ (s : Holdings D). kept_in s) same;
      full = λ f. absurd (let e_is : e ≡ NoMemory = said.err.0 in cc);
      spent = λ f. absurd (let e_is : e ≡ NoMemory = said.err.0 in cc);
      cause = record { later = later; failed = λ f. absurd (let e_is : e ≡ NoMemory = said.err.0 in cc) };
      run = run;
    }

    -- a job that follows a read begins before it
    pub read_first : ((a b c : D) → device.came_to a b → device.came_to b c → device.came_to a c) → (last : Holdings D) (result : Result JobResult WorkError)
        (rule rule' : rules.JobResult) → device.faults old.disk ≤ device.faults new.disk → (device.observable → rule ≡ rule')
        → marked_by rule.own.store ≡ marked_by (store_of old) → IsDone device here (held side new) (held after last) result rule
        → IsDone device here (held side old) (held after last) result rule'
    read_first onward last result rule rule' later is marks job = record {
      done = IfOk-weaker result _ _ (λ out by observed. subst (λ (r : rules.JobResult). IsBy here (own_of after last) out r) (is observed) (by observed)) job.done;
      keeps = job.keeps;
      holds = λ observed holds. job.holds observed (shown observed holds);
      moments = λ observed holds.
          let P = StandsAsEither old rule'.own.store in
          joined device.moment device.left_since old.disk new.disk last.disk P P (kept_moments old new rule'.own.store keeps holds)
          (subst (λ (r : rules.JobResult). LeavesOnly device.moment device.left_since new.disk last.disk (StandsAsEither old r.own.store)) (is observed)
          (subst (λ (s : Holdings D). LeavesOnly device.moment device.left_since new.disk last.disk (StandsAsEither s rule.own.store)) same
          (job.moments observed (shown observed holds))))
          (λ c stands. stands);
      still = λ no observed holds. job.still no observed (shown observed holds);
      same = λ no. back (job.same no);
      kept = on_err_weaker result (λ entries observed. entries observed ∙ ap (λ (s : Holdings D). s.entries) same) job.kept;
      stays = on_err_weaker result (λ stays. stays ∙ ap (λ (s : Holdings D). kept_in s) same) job.stays;
      full = λ no.
          let full = job.full no in
          let count : marked_by (store_of old) ≡ marks_limit = sym (ap (λ (s : Holdings D). marked_in s) same) ∙ full.count in
          let over = full.over in absurd (omega (arith, count, over, marks));
      spent = λ no.
          let spent = job.spent no in
          record {
            next = λ observed. subst (λ (r : rules.JobResult). greatest_u64 < r.own.pairs.next) (is observed) (spent.next observed);
            same = back spent.same;
          };
      cause = record {
        later = let more = job.cause.later in omega (arith, later, more);
        failed = λ no. let more = job.cause.failed no in omega (arith, later, more);
      };
      run = onward old.disk new.disk last.disk run job.run;
    }
      where
        back : (after ≡ side) × (last ≡ record new { disk = last.disk }) → (after ≡ side) × (last ≡ record old { disk = last.disk })
        back (still, left) = (still, left ∙ ap (λ (s : Holdings D). record s { disk = last.disk }) same)
