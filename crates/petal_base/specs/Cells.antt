-- Cells and keys.
use Rattle.std.specs.Prelude.{ℕ}
use Rattle.petal_base.specs.declared.cell.Cell.{Cell}
use Rattle.petal_base.specs.declared.cell.Key.{Key}

-- the cell of a key
abbrev pub cell_of : Key → Cell
cell_of key = record { map = key.map; block = key.block }

-- the key of a cell at an epoch
abbrev pub key_at : Cell → ℕ → Key
key_at cell epoch = record { map = cell.map; block = cell.block; epoch = epoch }
