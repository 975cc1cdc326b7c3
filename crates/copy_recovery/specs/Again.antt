-- What a tick sends again.
use Rattle.std.specs.Prelude.{ℕ, Option, option_and_then}
use Rattle.petal_base.specs.declared.cell.Cell.{Cell}
use Rattle.spec_rules.specs.Server.{JobContext}
use Rattle.spec_rules.specs.State.{other_in}
use Rattle.spec_state.specs.CellState.{cell_link}

-- the other server of a cell's link, for the holder
abbrev pub other_of_cell : JobContext → Cell → Option ℕ
other_of_cell here cell = option_and_then (other_in here.state here.me) (cell_link here.state cell)
