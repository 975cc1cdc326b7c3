-- Records of r bytes from base on: record i begins at base + r * i, with its gate, and its body follows.
use Rattle.std.specs.Prelude.{◌≡◌, ◌⊎◌, ◌<◌, ◌≤◌, ℕ, ◌+◌, ◌-◌, ◌*◌, List, [], ◌∷◌, ◌++◌, length, map, Vec, slice_index, slice_index_or}
use Rattle.std.specs.declared.alloc.Global.{Global}
use Rattle.petal_disk.specs.Disk.{part, Torn}
use Rattle.block_journal.specs.Region.{Region}

-- the bytes of each
abbrev pub contents : List (Vec ℕ Global) → List (List ℕ)
contents bodies = map (λ body. body.items) bodies

-- the gate of record i is open
abbrev pub IsOpen : ℕ → ℕ → List ℕ → ℕ → Type 0
IsOpen r base file i = slice_index file (base + r * i) ≡ 165

-- the body of record i
abbrev pub body_at : ℕ → ℕ → List ℕ → ℕ → List ℕ
body_at r base file i = part file (base + r * i + 1) (r - 1)

-- these bodies count: the gates up to the first that is not open are theirs, in order
pub record Counts (r base limit : ℕ) (file : List ℕ) (bodies : List (List ℕ)) : Type 0 where
  pub few : length bodies ≤ limit
  pub counted : (i : ℕ) → i < length bodies → IsOpen r base file i × (body_at r base file i ≡ slice_index_or bodies i [])
  pub ends : length bodies < limit → ¬ IsOpen r base file (length bodies)

-- the region stands for these bodies: they count, and all gates after theirs are closed
pub record Stands (r base limit : ℕ) (file : List ℕ) (bodies : List (List ℕ)) : Type 0 where
  pub few : length bodies ≤ limit
  pub counted : (i : ℕ) → i < length bodies → IsOpen r base file i × (body_at r base file i ≡ slice_index_or bodies i [])
  pub closed : (i : ℕ) → length bodies ≤ i → i < limit → ¬ IsOpen r base file i

-- a journal's region stands for these bodies on a disk, whatever a crash leaves
pub record Stored (r : ℕ) (region : Region) (seen : List ℕ) (may_leave : List ℕ → Type 0) (bodies : List (List ℕ)) : Type 0 where
  pub count : region.count ≡ length bodies
  pub now : Stands r region.base region.limit seen bodies
  pub left : (c : List ℕ) → may_leave c → Stands r region.base region.limit c bodies

-- the region stands for the bodies, with a new one or without it
abbrev pub WithOrWithout : ℕ → Region → List (List ℕ) → List ℕ → List ℕ → Type 0
WithOrWithout r region bodies body file =
    Stands r region.base region.limit file bodies ⊎ Stands r region.base region.limit file (bodies ++ body ∷ [])

-- what a crash in an append may leave: the bodies with the new one or without it, and outside the region what it might have left
-- before
pub record LeftByAppend (r : ℕ) (region : Region) (may_leave : List ℕ → Type 0) (bodies : List (List ℕ)) (body c : List ℕ) : Type 0 where
  pub stands : WithOrWithout r region bodies body c
  pub from : List ℕ
  pub from_left : may_leave from
  pub outside : Torn region.base (r * region.limit) from c
