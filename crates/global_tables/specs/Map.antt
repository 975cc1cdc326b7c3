-- Global maps, numbered from 0 in the order of making.
use Rattle.std.specs.Prelude.{ℕ, List, [], ◌∷◌, ◌++◌, Option, slice_get, option_map}
use Rattle.global_tables.specs.declared.map.MapRow.{MapRow}

-- the servers of a map
abbrev pub tuple_of : List MapRow → ℕ → Option (List ℕ)
tuple_of maps map = option_map (λ row. row.tuple) (slice_get maps map)

-- the disk that a map was made for
abbrev pub disk_of : List MapRow → ℕ → Option ℕ
disk_of maps map = option_map (λ row. row.disk) (slice_get maps map)

-- one map more, whose number is that of the maps before
abbrev pub added : List MapRow → List ℕ → ℕ → List MapRow
added maps tuple disk = maps ++ record { tuple = tuple; disk = disk } ∷ []
