-- The next entry, and an entry that was applied.
use Rattle.std.specs.Prelude.{◌≡◌, List, Option, IfSome, option_map}
use Rattle.petal_command.specs.declared.command.Command.{Command}
use Rattle.spec_paxos.specs.declared.record.StateRecord.{StateRecord}
use Rattle.spec_rules.specs.Log.{known, next_place}
use Rattle.spec_state.specs.Command.{after}
use Rattle.server_log.specs.declared.memory.entries.Entered.{Entered}
use Rattle.server_log.specs.declared.memory.entries.Next.{Next}
use Rattle.server_log.specs.Part.{Part, log_of, state_of}

abbrev pub entry_of : Entered → Command
entry_of entered = entered.entry

-- the entry that is known for the place after the last one, with these records on the state device
abbrev pub next_known : Part → List StateRecord → Option Command
next_known part records = known (log_of part records) (next_place (log_of part records))

abbrev pub entry_in : Next → Command
entry_in next = next.entry

-- this is the next entry, with the state that it makes; or none is known
abbrev pub IsNext : Part → List StateRecord → Option Next → Type 0
IsNext part records found =
    (option_map entry_in found ≡ next_known part records) × IfSome found (λ next. next.state ≡ after (state_of part) next.entry)
