-- What is asked of the records on state devices, and what they only add to.
use Rattle.std.specs.Prelude.{ℕ, ◌≡◌}
use Rattle.petal_command.specs.declared.command.Command.{Command}
use Rattle.spec_paxos.specs.declared.record.StateRecord.{StateRecord}
use Rattle.spec_paxos.specs.Chosen.{Devices, IsChosenBy}
use Rattle.spec_paxos.specs.Member.{In}

-- one command at most is chosen for a place
abbrev pub IsSingle : ℕ → Devices → Type 0
IsSingle n devices = (place : ℕ) (a b : Command) → IsChosenBy n devices place a → IsChosenBy n devices place b → a ≡ b

-- each record is there later too
abbrev pub IsKept : Devices → Devices → Type 0
IsKept devices later = (s : ℕ) (entry : StateRecord) → In entry (devices s) → In entry (later s)
