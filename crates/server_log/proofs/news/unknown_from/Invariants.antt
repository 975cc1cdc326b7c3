-- The commands so far and those that are left are all.
use Rattle.std.proofs.Common.{◌≡◌, ◌+◌, ◌++◌, drop}
use Rattle.spec_rules.specs.Entries as rules
use Rattle.spec_rules.specs.Log.{Log}
use Rattle.server_log.proofs.news.unknown_from.Given as goal

abbrev pub invariant-loop-command : goal.invariant-loop-command
invariant-loop-command g l = record {
  all : (log : Log) → log.records ≡ l.state.records
      → l.unknown ++ rules.unknown_from log l.place (drop l.command-index l.commands) ≡ rules.unknown_from log l.from l.commands;
  place : l.place ≡ l.from + l.command-index;
}
