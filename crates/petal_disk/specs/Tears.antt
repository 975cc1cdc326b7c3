-- A tear of nothing.
use Rattle.std.specs.Prelude.{ℕ, List, refl}
use Rattle.petal_disk.specs.Disk.{Torn}

pub torn_nothing : (at n : ℕ) (file : List ℕ) → Torn at n file file
torn_nothing at n file = record { before = refl; after = refl; size = refl }
