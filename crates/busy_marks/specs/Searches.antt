-- Where a search among marks begins, and what its find says.
use Rattle.std.specs.Prelude.{ℕ, ◌==◌, Option, None, Some, if◌then◌else◌}
use Rattle.std.specs.declared.ops.Bound.{Bound}
use Rattle.std.specs.declared.ops.Bound.TheVariants.{Included, Excluded}
use Rattle.busy_marks.specs.declared.marks.Mark.{Mark}
use Rattle.busy_marks.specs.declared.marks.MarkKind.TheVariants.{Busy, Stale}

-- the marks on a map's blocks above a number, and those on later maps
abbrev pub after_block : ℕ → Option ℕ → Bound Mark
after_block map None = Included (record { cell = record { map = map; block = 0 }; kind = Busy })
after_block map (Some after) = Excluded (record { cell = record { map = map; block = after }; kind = Stale })

-- the block of a mark that is on the map
abbrev pub block_on : ℕ → Option Mark → Option ℕ
block_on map None = None
block_on map (Some m) = if m.cell.map == map then Some m.cell.block else None

-- the marks on a map, and those on later ones
abbrev pub from_map : ℕ → Bound Mark
from_map map = Included (record { cell = record { map = map; block = 0 }; kind = Busy })

abbrev pub map_on : Option Mark → Option ℕ
map_on None = None
map_on (Some m) = Some m.cell.map
