-- How a run of calls of a disk goes on.
use Rattle.std.proofs.Common.{inl, inr, ⊎_elim, ℕ, List, arith}
use Rattle.petal_disk.specs.Disk.{Elapses, LeavesOnly, Torn, Follows, LeftByWrite, Within}
use Rattle.petal_disk.specs.Tears.{torn_nothing}

module _ {D : Type 0} (moment : D → ℕ) (left_since : D → ℕ → List ℕ → Type 0) where
  -- before the first call
  pub started : (old : D) (P : List ℕ → Type 0) → ((c : List ℕ) → left_since old (moment old) c → P c) → LeavesOnly moment left_since old old P
  started old P here = record { later = omega arith; each = here; before = λ t c le left. inl left }

  -- one call more, after which a crash leaves what has P
  pub goes_on : (old mid new : D) (P may_leave : List ℕ → Type 0) → LeavesOnly moment left_since old mid P
      → Elapses (moment mid) (moment new) (left_since mid) (left_since new) may_leave
      → ((c : List ℕ) → may_leave c → P c) → LeavesOnly moment left_since old new P
  goes_on old mid new P may_leave so_far time here = record {
    later = omega (arith, so_far.later, time.later);
    each = λ c left. ⊎_elim (so_far.each c) (here c) (time.nothing_else (moment old) c so_far.later left);
    before = λ t c le left. ⊎_elim (so_far.before t c le) (λ now. inr (here c now)) (time.nothing_else t c (omega (arith, le, so_far.later)) left);
  }

  -- a write of n bytes, and a sync after it
  pub by_write : (old new : D) (at n : ℕ) (was may_leave : List ℕ → Type 0) → ((c : List ℕ) → left_since old (moment old) c → was c)
      → Elapses (moment old) (moment new) (left_since old) (left_since new) may_leave → Follows (Torn at n) was may_leave
      → LeavesOnly moment left_since old new (LeftByWrite at n was)
  by_write old new at n was may_leave only_now time crash =
      goes_on old old new (LeftByWrite at n was) may_leave (started old (LeftByWrite at n was) (λ c left. (c, only_now c left, torn_nothing at n c))) time crash

  pub by_sync : (old mid new : D) (at n : ℕ) (was then may_leave : List ℕ → Type 0) → LeavesOnly moment left_since old mid (LeftByWrite at n was)
      → Follows (Torn at n) was then → Elapses (moment mid) (moment new) (left_since mid) (left_since new) may_leave → Within then may_leave
      → LeavesOnly moment left_since old new (LeftByWrite at n was)
  by_sync old mid new at n was then may_leave so_far crash time within =
      goes_on old mid new (LeftByWrite at n was) may_leave so_far time (λ c left. crash c (within c left))

  -- one run after another
  pub joined : (old mid new : D) (P Q : List ℕ → Type 0) → LeavesOnly moment left_since old mid P → LeavesOnly moment left_since mid new Q
      → ((c : List ℕ) → Q c → P c) → LeavesOnly moment left_since old new P
  joined old mid new P Q first second serves = record {
    later = omega (arith, first.later, second.later);
    each = λ c left. ⊎_elim (first.each c) (serves c) (second.before (moment old) c first.later left);
    before = λ t c le left. ⊎_elim (first.before t c le) (λ now. inr (serves c now)) (second.before t c (omega (arith, le, first.later)) left);
  }

  -- what serves less serves more
  pub weaker : (old new : D) (P Q : List ℕ → Type 0) → LeavesOnly moment left_since old new P → ((c : List ℕ) → P c → Q c)
      → LeavesOnly moment left_since old new Q
  weaker old new P Q run serves = record {
    later = run.later;
    each = λ c left. serves c (run.each c left);
    before = λ t c le left. ⊎_elim (λ was. inl was) (λ now. inr (serves c now)) (run.before t c le left);
  }
