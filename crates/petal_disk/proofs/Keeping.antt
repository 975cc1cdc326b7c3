-- How calls that change nothing go on.
use Rattle.std.proofs.Common.{◌≡◌, ◌∙◌, ℕ, List, refl, inl, inr, ⊎_elim, arith}
use Rattle.petal_disk.specs.Disk.{Within, Elapses}
use Rattle.petal_disk.specs.Keeping.{KeepsDevice}

module _ {D : Type 0} (size : D → ℕ) (seen : D → List ℕ) (may_leave : D → List ℕ → Type 0) (moment : D → ℕ) (left_since : D → ℕ → List ℕ → Type 0) where
  abbrev Keeps : D → D → Type 0
  Keeps = KeepsDevice size seen may_leave moment left_since

  -- no call
  pub keeps_all : (disk : D) → Keeps disk disk
  keeps_all disk = record { same_size = refl; same_seen = refl; crash = λ c left. left; later = omega arith; nothing_new = λ t c le left. inl left }

  -- a call that reads or syncs
  pub kept_by_call : (old new : D) → size new ≡ size old → seen new ≡ seen old → Within (may_leave old) (may_leave new)
      → Elapses (moment old) (moment new) (left_since old) (left_since new) (may_leave new) → Keeps old new
  kept_by_call old new size seen crash time = record {
    same_size = size;
    same_seen = seen;
    crash = crash;
    later = time.later;
    nothing_new = λ t c le left. ⊎_elim (λ was. inl was) (λ now. inr (crash c now)) (time.nothing_else t c le left);
  }

  -- one run of calls after another
  pub keeps_on : (old mid new : D) → Keeps old mid → Keeps mid new → Keeps old new
  keeps_on old mid new first second = record {
    same_size = second.same_size ∙ first.same_size;
    same_seen = second.same_seen ∙ first.same_seen;
    crash = λ c left. first.crash c (second.crash c left);
    later = omega (arith, first.later, second.later);
    nothing_new =
        λ t c le left. ⊎_elim (first.nothing_new t c le) (λ now. inr (first.crash c now)) (second.nothing_new t c (omega (arith, le, first.later)) left);
  }
