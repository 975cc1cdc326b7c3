-- Where a journal stands on its disk, and how many records count.
use Rattle.std.specs.Prelude.{ℕ, ◌+◌, ◌*◌, ◌^◌, ◌<◌, ◌≤◌}

-- records from base on, at most limit, of which the first count have been appended
pub record Region : Type 0 where
  pub base : ℕ
  pub limit : ℕ
  pub count : ℕ

-- the bytes of the region have offsets of 64 bits
pub record IsPlaced (r : ℕ) (region : Region) : Type 0 where
  pub wide : 0 < r
  pub fits : region.base + r * region.limit < 2 ^ 64
  pub within : region.count ≤ region.limit
