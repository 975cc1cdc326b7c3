-- What is found among the entries that are left is what is found among all.
use Rattle.std.proofs.Common.{◌≡◌, length}
use Rattle.physical_map.specs.Entries.{key_of}
use Rattle.physical_map.specs.Keys.{IsInOrder}
use Rattle.redistribute.specs.Swept.{first_retired}
use Rattle.redistribute.proofs.search.retired_entry.Given as goal

abbrev pub invariant-loop-entry : goal.invariant-loop-entry
invariant-loop-entry l = record {
  first : first_retired l.state l.rest ≡ first_retired l.state l.entries;
  order : IsInOrder key_of l.rest;
}

abbrev pub decreases-loop-entry : goal.decreases-loop-entry
decreases-loop-entry l = length l.rest
