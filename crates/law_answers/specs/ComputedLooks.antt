-- The looks of a run that is computed.
use Rattle.law_answers.specs.Imports.{Event, Record, Setting, World, make_moves, read_moves, records_of, sevens, start, stepped, write_moves}
use Rattle.std.specs.Prelude.{[], ◌++◌, ◌+◌, ◌∷◌, List, map, ℕ}
use Rattle.law_answers.specs.Looks.{record_looks}

-- a look that is told: how many records stand before the one that tells it, and the look beside the number of its line
abbrev pub Placed : Type 0
Placed = ℕ × (ℕ × Event)

-- the looks of these records, at this world, before which so many records stand
abbrev pub looks_along : Setting → World → (before : ℕ) → List Record → List Placed
looks_along setting w before [] = []
looks_along setting w before (own ∷ later) =
    let next = (stepped setting w own).world in
    map (λ look. (before, look)) (record_looks setting w next own later) ++ looks_along setting next (before + 1) later

-- the records of the run in which a block is written and read back
abbrev pub sevens_records : List Record
sevens_records = records_of sevens (start sevens) (make_moves ++ write_moves ++ read_moves)
