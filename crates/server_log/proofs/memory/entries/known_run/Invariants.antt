-- The commands so far and those that are left are all; no turn adds more than one.
use Rattle.std.proofs.Common.{◌≡◌, ◌≤◌, ◌+◌, ◌-◌, ◌++◌, length}
use Rattle.spec_rules.specs.Entries as rules
use Rattle.spec_rules.specs.Log.{Log}
use Rattle.server_log.proofs.memory.entries.known_run.Given as goal

abbrev pub invariant-loop-told : goal.invariant-loop-told
invariant-loop-told g l = record {
  run : (log : Log) → log.records ≡ l.state.records
      → l.run ++ rules.known_run log (l.rev + 1 + l.told) (l.most - l.told) ≡ rules.known_run log (l.rev + 1) l.most;
  few : length l.run ≤ l.told;
}
