-- Several writes within one range.
use Rattle.std.proofs.Common.{ℕ, ◌+◌, ◌≤◌, List}
use Rattle.petal_disk.specs.Disk.{Torn, Follows, LeavesOnly, LeftByWrite}
use Rattle.petal_disk.proofs.Moments.{joined}
use Rattle.petal_disk.proofs.Tearing.{torn_wider, torn_twice}

-- what a write may leave is what any bytes in a wider range may leave
pub left_wider : (at n low wide : ℕ) (leave : List ℕ → Type 0) → low ≤ at → at + n ≤ low + wide → (c : List ℕ) → LeftByWrite at n leave c
    → LeftByWrite low wide leave c
left_wider at n low wide leave le fits c left = (left.0, left.1, torn_wider at n low wide left.0 c le fits left.2)

-- one write more within the range
module _ (low wide at n : ℕ) (le : low ≤ at) (fits : at + n ≤ low + wide) where
  pub torn_more : (x y z : List ℕ) → Torn low wide x y → Torn at n y z → Torn low wide x z
  torn_more x y z first second = torn_twice low wide x y z first (torn_wider at n low wide y z le fits second)

  pub follows_more : (leave0 leave1 leave2 : List ℕ → Type 0) → Follows (Torn low wide) leave0 leave1 → Follows (Torn at n) leave1 leave2
      → Follows (Torn low wide) leave0 leave2
  follows_more leave0 leave1 leave2 first second c left =
      let mid = second c left in
      let was = first mid.0 mid.1 in
      (was.0, was.1, torn_more was.0 mid.0 c was.2 mid.2)

  -- and what a crash may leave at any moment
  pub moments_more : {D : Type 0} (moment : D → ℕ) (left_since : D → ℕ → List ℕ → Type 0) (d0 d1 d2 : D) (leave0 leave1 : List ℕ → Type 0)
      → Follows (Torn low wide) leave0 leave1 → LeavesOnly moment left_since d0 d1 (LeftByWrite low wide leave0)
      → LeavesOnly moment left_since d1 d2 (LeftByWrite at n leave1) → LeavesOnly moment left_since d0 d2 (LeftByWrite low wide leave0)
  moments_more moment left_since d0 d1 d2 leave0 leave1 follows first second =
      joined moment left_since d0 d1 d2 (LeftByWrite low wide leave0) (LeftByWrite at n leave1) first second
      (λ c left. let was = follows left.0 left.1 in (was.0, was.1, torn_more was.0 left.0 c was.2 left.2))
