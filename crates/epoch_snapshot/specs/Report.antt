-- What a server reports to the active fence: the rule's report, as far as its table of pending operations tells.
use Rattle.std.specs.Prelude.{ℕ, ◌&&◌, not, Bool, List, [], ◌∷◌, if◌then◌else◌, Option, Some, None}
use Rattle.std.specs.List.{list_any}
use Rattle.petal_base.specs.declared.cell.Cell.{Cell}
use Rattle.petal_table.specs.Table.{Table}
use Rattle.petal_msg.specs.declared.operation.Pending.{Pending}
use Rattle.petal_command.specs.declared.command.Command.{Command}
use Rattle.petal_command.specs.declared.command.Command.TheVariants.{Drained}
use Rattle.global_tables.specs.View.{head}
use Rattle.global_tables.specs.declared.fence.Fence.{Fence}
use Rattle.spec_rules.specs.Draining.{awaits}
use Rattle.spec_rules.specs.State.{State, held}
use Rattle.spec_rules.specs.Writes.{is_clients, is_writes_held}

-- the row is a client's write on a cell of which the active fence holds the writes
abbrev pub is_held_write : State → Cell × Pending → Bool
is_held_write state row = is_clients row.1.kind && is_writes_held (held state row.0)

abbrev pub report_to : State → ℕ → Table Cell Pending → Option Fence → Option ℕ
report_to state me pending None = None
report_to state me pending (Some fence) = if awaits fence me && not (list_any (is_held_write state) pending) then Some fence.number else None

-- the number of the active fence, where that awaits the server and none of these operations is a write that it holds
abbrev pub report : State → ℕ → Table Cell Pending → Option ℕ
report state me pending = report_to state me pending (head state.view.queue)

-- the command that reports to the fence of this number
abbrev pub reported_as : (me inc : ℕ) → Option ℕ → List Command
reported_as me inc None = []
reported_as me inc (Some number) = Drained me inc number ∷ []
