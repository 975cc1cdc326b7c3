-- What stands under keys, as the chains of cells.
use Rattle.std.specs.Prelude.{List, [], ◌∷◌, if◌then◌else◌}
use Rattle.petal_base.specs.declared.cell.Cell.{Cell}
use Rattle.petal_base.specs.declared.cell.Key.{Key}
use Rattle.petal_table.specs.Table.{Table}
use Rattle.physical_map.specs.Entries.{in_cell}
use Rattle.spec_rules.specs.Store.{Chain, Stored, chains_with}

-- the chains of all that stands in a list
abbrev pub chains_by : {A : Type 0} → (A → Key) → (A → Stored) → List A → Table Cell Chain
chains_by key stored [] = []
chains_by key stored (x ∷ xs) = chains_with (chains_by key stored xs) (key x) (stored x)

-- what stands in a list in order at one cell, by rising epoch
abbrev pub chain_by : {A : Type 0} → (A → Key) → (A → Stored) → Cell → List A → Chain
chain_by key stored cell [] = []
chain_by key stored cell (x ∷ xs) =
    if in_cell cell (key x) then ((key x).epoch, stored x) ∷ chain_by key stored cell xs else chain_by key stored cell xs
