-- The blocks of a map, as they are walked.
use Rattle.std.specs.Prelude.{ℕ, ◌==◌, List, map, filter}
use Rattle.busy_marks.specs.declared.marks.Mark.{Mark}
use Rattle.petal_base.specs.declared.cell.Cell.{Cell}
use Rattle.petal_table.specs.Table.{Table}
use Rattle.spec_rules.specs.Store.{Chain, Stored}
use Rattle.kept_chains.specs.declared.walk.Found.{Found}

-- the blocks of the map that have a chain
abbrev pub stored_in : ℕ → Table Cell Chain → List ℕ
stored_in of chains = map (λ chain. chain.0.block) (filter (λ chain. chain.0.map == of) chains)

-- the blocks of the map that are marked, of either kind
abbrev pub marked_in : ℕ → List Mark → List ℕ
marked_in of marks = map (λ mark. mark.cell.block) (filter (λ mark. mark.cell.map == of) marks)

-- the epoch and the version of an entry in its chain
abbrev pub place_of : ℕ × Stored → ℕ × ℕ
place_of row = (row.0, row.1.version)

-- what was found is this entry of its chain
abbrev pub row_of : Found → ℕ × Stored
row_of found = (found.epoch, record { version = found.version; bytes = found.bytes })
