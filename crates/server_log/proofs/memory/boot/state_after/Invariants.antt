-- The state so far, with the entries that are left, is that of all.
use Rattle.std.proofs.Common.{◌≡◌, fold, drop}
use Rattle.spec_state.specs.Command.{after}
use Rattle.spec_state.specs.Command as commands
use Rattle.server_log.proofs.memory.boot.state_after.Given as goal

abbrev pub invariant-loop-entry : goal.invariant-loop-entry
invariant-loop-entry l = fold after l.state (drop l.entry-index l.entries) ≡ commands.state_after l.servers l.entries
