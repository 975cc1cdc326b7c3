-- Where an entry goes.
use Rattle.std.specs.Prelude.{ℕ, List, Option, None, Some, option_and_then, option_map}
use Rattle.petal_base.specs.declared.cell.Cell.{Cell}
use Rattle.petal_base.specs.declared.cell.Key.{Key}
use Rattle.petal_base.specs.Cells.{cell_of, key_at}
use Rattle.petal_msg.specs.declared.body.Body.{Body}
use Rattle.petal_msg.specs.declared.body.Body.TheVariants as body
use Rattle.spec_rules.specs.State.{State, lead}
use Rattle.spec_state.specs.CellState.{target}

-- a cell with its lead
abbrev pub with_lead : State → Cell → Option (ℕ × Cell)
with_lead state cell = option_map (λ n. (n, cell)) (lead state cell)

-- the key's cell of the new map, and that cell's lead
abbrev pub destination : State → Key → Option (ℕ × Cell)
destination state key = option_and_then (with_lead state) (target state (cell_of key))

-- the letter with these bytes
abbrev pub letter_with : Key → Option (ℕ × Cell) → Option (List ℕ) → Option (ℕ × Body)
letter_with key None bytes = None
letter_with key (Some to) None = None
letter_with key (Some to) (Some bytes) = Some (to.0, body.Fill (key_at to.1 key.epoch) bytes)
