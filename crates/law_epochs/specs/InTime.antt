-- When a client's write is in time: no fence that holds it has taken effect since it was opened.
use Rattle.std.specs.Prelude.{◌≡◌, ◌≤◌, ℕ, List}
use Rattle.petal_base.specs.declared.cell.Cell.{Cell}
use Rattle.petal_command.specs.declared.command.Command.{Command}
use Rattle.petal_msg.specs.declared.operation.Pending.{Pending}
use Rattle.spec_state.specs.Command.{state_after}
use Rattle.law_state.specs.Homes.{epoch_at, stage_at}

-- by these entries the write is of the epoch that its disk has, and its cell is live and not leaving
pub record IsTimely (servers : ℕ) (prefix : List Command) (cell : Cell) (op : Pending) : Type 0 where
  pub epoch : epoch_at (state_after servers prefix) cell ≡ op.key.epoch
  pub born : 1 ≤ stage_at (state_after servers prefix) cell
  pub stays : stage_at (state_after servers prefix) cell ≤ 2
