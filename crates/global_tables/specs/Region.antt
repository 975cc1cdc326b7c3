-- Where a block lies within its disk.
use Rattle.std.specs.Prelude.{ℕ, ◌/◌, ◌%◌}

-- the link of a block, in a map of k servers (chained declustering)
abbrev pub link_of : ℕ → ℕ → ℕ
link_of k block = block % k

-- the region of a block: 8 blocks at a time, 16 regions in turn
abbrev pub region_of : ℕ → ℕ
region_of block = (block / 8) % 16
