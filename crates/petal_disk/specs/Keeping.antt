-- What calls that change nothing keep of a device.
use Rattle.std.specs.Prelude.{◌≡◌, ◌≤◌, ◌⊎◌, ℕ, List}
use Rattle.petal_disk.specs.Disk.{Within}

-- a read gives what it gave, and a crash, now or at any moment since, leaves nothing that it might not have left before
pub record KeepsDevice {D : Type 0} (size : D → ℕ) (seen : D → List ℕ) (may_leave : D → List ℕ → Type 0) (moment : D → ℕ)
    (left_since : D → ℕ → List ℕ → Type 0) (old new : D) : Type 0 where
  pub same_size : size new ≡ size old
  pub same_seen : seen new ≡ seen old
  pub crash : Within (may_leave old) (may_leave new)
  pub later : moment old ≤ moment new
  pub nothing_new : (t : ℕ) (c : List ℕ) → t ≤ moment old → left_since new t c → left_since old t c ⊎ may_leave old c
