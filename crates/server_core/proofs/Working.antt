-- The first job with both of its devices, by the device that it commits to.
use Rattle.std.proofs.Common.{◌≡◌, ◌≢◌, ℕ, List, [], ◌∷◌, None, Result, Ok, Err, inl, inr, refl, sym, subst, ap, arith}
use Rattle.std.specs.Prelude.{slice_get, IsSomeAnd}
use Rattle.kept_chains.proofs.Commits.{still_moments}
use Rattle.kept_chains.specs.Kept.{store_of}
use Rattle.server_log.proofs.Said.{still_left}
use Rattle.pair_memory.specs.PairMemory.{HasTicketsAt, PairMemory}
use Rattle.pair_memory.specs.declared.error.WorkError.{WorkError}
use Rattle.pair_memory.specs.declared.error.WorkError.TheVariants.{Failed, NoRoom, NoMemory, Exhausted}
use Rattle.petal_disk.specs.declared.disk.Disk.{Ghosts}
use Rattle.petal_msg.specs.declared.letter.Letter.{Letter}
use Rattle.spec_rules.specs.declared.job.Job.{Job}
use Rattle.server_core.specs.ServerView.{ServerView, left_by_first}
use Rattle.server_core.specs.Work.{IsLogWork, IsStoreWork}
use Rattle.server_core.specs.Works.{IsFirstJob, as_some}
use Rattle.server_core.proofs.Pairing.{full_log, full_store}
use Rattle.server_core.proofs.Rooms.{few_marked, few_records}
use Rattle.server_store.specs.Holdings.{Holdings}
use Rattle.state_store.specs.Device.{Keeping}

-- a queue whose first job was looked at has one
pub not_idle : (queue : List Job) (P : Job → Type 0) → IsSomeAnd (slice_get queue 0) P → queue ≢ []
not_idle [] P none = absurd none
not_idle (first ∷ rest) P some = λ no. absurd (cc)

module _ {D E : Type 0} (device : Ghosts D) (other : Ghosts E) (stays : (d : D) → device.came_to d d)
    (only_now : (d : D) (c : List ℕ) → device.left_since d (device.moment d) c → device.may_leave d c) (rests : (d : E) → other.came_to d d)
    (only_there : (d : E) (c : List ℕ) → other.left_since d (other.moment d) c → other.may_leave d c) (old : ServerView) where
  -- a job that commits to the data device
  pub pairs_first : (new : ServerView) (before after : Holdings D) (state : Keeping E) (worked : Result (List Letter) WorkError) → old.queue ≢ []
      → IsStoreWork device state.records old new before after worked → IsFirstJob device other old new before after state state (as_some worked)
  pairs_first new before after state (Ok letters) some is = record {
    idle = ((λ no. absurd (cc)), (λ none. absurd (some none)));
    work = λ observed also holds kept. is.work observed holds (few_records other state kept);
    life = is.life;
    keeps = is.keeps;
    holds = is.holds;
    moments = is.moments;
    still = λ no. absurd (cc);
    once = inr is.logged;
    same = λ no. absurd (cc);
    kept = tt;
    stays = tt;
    full = λ no. absurd (cc);
    spent = λ no. absurd (cc);
    cause = record { data_later = is.cause.later; state_later = omega arith; failed = λ no. absurd (cc) };
    run = is.run;
    state_holds = λ _ holds. holds;
    state_moments = λ _. still_left other rests only_there state (left_by_first old (store_of before) state.records).log.records;
    state_kept = tt;
    state_run = rests state.disk;
  }
  pairs_first new before after state (Err e) some is = record {
    idle = ((λ no. absurd (cc)), (λ none. absurd (some none)));
    work = tt;
    life = is.life;
    keeps = tt;
    holds = λ _ _. tt;
    moments = is.moments;
    still = λ no. let e_is : e ≡ NoMemory = cc in is.still (ap Err e_is);
    once = inr is.logged;
    same = λ no. let e_is : e ≡ NoMemory = cc in let same = is.same (ap Err e_is) in (same.0, same.1, refl);
    kept = is.kept;
    stays = is.stays;
    full = λ no. let e_is : e ≡ NoRoom = cc in full_store device other old new before after state (is.full (ap Err e_is));
    spent = λ no. let e_is : e ≡ Exhausted = cc in let spent = is.spent (ap Err e_is) in (spent.0, spent.1, refl);
    cause = record {
      data_later = is.cause.later;
      state_later = omega arith;
      failed = λ no. let e_is : e ≡ Failed = cc in inl (is.cause.failed (ap Err e_is));
    };
    run = is.run;
    state_holds = λ _ _. tt;
    state_moments = λ _. still_left other rests only_there state (left_by_first old (store_of before) state.records).log.records;
    state_kept = refl;
    state_run = rests state.disk;
  }

  -- a job that commits to the state device
  pub log_first : (new : ServerView) (store : Holdings D) (state left : Keeping E) (worked : Result (List Letter) WorkError) → old.queue ≢ []
      → HasTicketsAt old.side store → IsLogWork other (store_of store) old new state left worked
      → IsFirstJob device other old new store store state left (as_some worked)
  log_first new store state left (Ok letters) some tickets is = record {
    idle = ((λ no. absurd (cc)), (λ none. absurd (some none)));
    work = λ observed also holds kept. is.work also kept (few_marked device store holds);
    life = is.life;
    keeps = subst (λ (side : PairMemory). HasTicketsAt side store) (sym is.side) tickets;
    holds = λ _ holds. holds;
    moments = λ _. still_moments device only_now store store (left_by_first old (store_of store) state.records).own.store refl;
    still = λ no. absurd (cc);
    once = inl refl;
    same = λ no. absurd (cc);
    kept = tt;
    stays = tt;
    full = λ no. absurd (cc);
    spent = λ no. absurd (cc);
    cause = record { data_later = omega arith; state_later = is.cause.later; failed = λ no. absurd (cc) };
    run = stays store.disk;
    state_holds = is.holds;
    state_moments = is.moments;
    state_kept = tt;
    state_run = is.run;
  }
  log_first new store state left (Err e) some tickets is = record {
    idle = ((λ no. absurd (cc)), (λ none. absurd (some none)));
    work = tt;
    life = is.life;
    keeps = tt;
    holds = λ _ _. tt;
    moments = λ _. still_moments device only_now store store (left_by_first old (store_of store) state.records).own.store refl;
    still = λ _ _ holds. holds;
    once = inl refl;
    same = λ no. let e_is : e ≡ NoMemory = cc in let same = is.same (ap Err e_is) in (same.0, refl, same.1);
    kept = λ _. refl;
    stays = refl;
    full = λ no. let e_is : e ≡ NoRoom = cc in full_log device other old new store state left (is.full (ap Err e_is));
    spent = λ no. let e_is : e ≡ Exhausted = cc in let spent = is.spent (ap Err e_is) in (spent.0, refl, spent.1);
    cause = record {
      data_later = omega arith;
      state_later = is.cause.later;
      failed = λ no. let e_is : e ≡ Failed = cc in inr (is.cause.failed (ap Err e_is));
    };
    run = stays store.disk;
    state_holds = λ _ _. tt;
    state_moments = is.moments;
    state_kept = is.kept;
    state_run = is.run;
  }

  -- no job waits
  pub none_first : (store : Holdings D) (state : Keeping E) → old.queue ≡ [] → HasTicketsAt old.side store
      → IsFirstJob device other old old store store state state (Ok None)
  none_first store state none tickets = record {
    idle = ((λ _. none), (λ _. refl));
    work = λ _ _ _ _. (none, refl, refl, refl);
    life = (refl, refl);
    keeps = tickets;
    holds = λ _ holds. holds;
    moments = λ _. still_moments device only_now store store (left_by_first old (store_of store) state.records).own.store refl;
    still = λ no. absurd (cc);
    once = inl refl;
    same = λ no. absurd (cc);
    kept = tt;
    stays = tt;
    full = λ no. absurd (cc);
    spent = λ no. absurd (cc);
    cause = record { data_later = omega arith; state_later = omega arith; failed = λ no. absurd (cc) };
    run = stays store.disk;
    state_holds = λ _ holds. holds;
    state_moments = λ _. still_left other rests only_there state (left_by_first old (store_of store) state.records).log.records;
    state_kept = tt;
    state_run = rests state.disk;
  }
