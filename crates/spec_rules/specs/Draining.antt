-- Fences: what a server reports so that the active fence takes effect. It has drained once none of its clients' writes is under way on a
-- cell of which the fence holds the writes; from the entry that makes the fence active it takes no new one, until it has applied the
-- entry with which the fence takes effect.
use Rattle.std.specs.Prelude.{ℕ, ◌&&◌, not, Bool, nat_eq, List, [], ◌∷◌, if◌then◌else◌, Option, Some, None}
use Rattle.std.specs.List.{list_any}
use Rattle.global_tables.specs.View.{head}
use Rattle.global_tables.specs.declared.fence.Fence.{Fence}
use Rattle.petal_command.specs.declared.command.Command.{Command}
use Rattle.petal_command.specs.declared.command.Command.TheVariants.{Drained}
use Rattle.spec_rules.specs.Server.{PairState, JobContext}
use Rattle.spec_rules.specs.State.{State, held, is_in}
use Rattle.spec_rules.specs.Writes.{is_clients, is_writes_held}

-- the fence waits for the server's report
abbrev pub awaits : Fence → ℕ → Bool
awaits fence server = list_any (nat_eq server) fence.waiting

-- a client's write is under way on a cell of which the active fence holds the writes
abbrev pub has_held_write : State → PairState → Bool
has_held_write state own = list_any (λ row. is_clients row.1.kind && is_writes_held (held state row.0)) own.pairs.pending

abbrev pub drained_for : JobContext → PairState → Option Fence → List Command
drained_for here own None = []
drained_for here own (Some fence) =
    if awaits fence here.me && not (has_held_write here.state own) then Drained here.me here.inc fence.number ∷ [] else []

-- a server that is In as itself wants its report to the active fence chosen
abbrev pub draining : JobContext → PairState → List Command
draining here own = if is_in here.state here.me here.inc then drained_for here own (head here.state.view.queue) else []
