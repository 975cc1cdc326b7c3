use Rattle.std.proofs.Common.{◌≡◌, drop, max}
use Rattle.physical_map.specs.Entries.{top_of}
use Rattle.physical_map.proofs.search.top.Given as goal

-- what is found so far and in the rest is what is found
abbrev pub invariant-loop-entry : goal.invariant-loop-entry
invariant-loop-entry l = max l.most (top_of (drop l.entry-index l.entries)) ≡ top_of l.entries
