-- Where the search for a map's next block ends.
use Rattle.std.specs.Prelude.{ℕ, Bool, ◌&&◌, ◌||◌, ◌==◌, not, nat_lt, Option}
use Rattle.petal_base.specs.declared.cell.Key.{Key}
use Rattle.physical_map.specs.Entries.{above}

-- the key stands before all of the map's blocks above a number
abbrev pub before_blocks : ℕ → Option ℕ → Key → Bool
before_blocks map after key = nat_lt key.map map || (key.map == map && not (above after key.block))
