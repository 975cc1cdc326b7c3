-- The order of a history: by stamp, and at one stamp by actor.
use Rattle.std.specs.Prelude.{List}
use Rattle.std.specs.List.{flat_map}
use Rattle.std.specs.List.Sorted.{IsPermutation, IsSorted, IsStable}
use Rattle.std.specs.Ordering.{nat_cmp, ordering_then}
use Rattle.std.specs.declared.cmp.Ordering.{Ordering}
use Rattle.petal_msg.specs.declared.letter.Actor.{Actor}
use Rattle.server_host.specs.Sent.{number_of, side_of}
use Rattle.spec_history.specs.declared.record.Record.{Record}

-- servers stand before clients
abbrev pub actor_cmp : Actor → Actor → Ordering
actor_cmp one other = ordering_then (nat_cmp (side_of one) (side_of other)) (nat_cmp (number_of one) (number_of other))

abbrev pub record_cmp : Record → Record → Ordering
record_cmp one other = ordering_then (nat_cmp one.stamp other.stamp) (actor_cmp one.actor other.actor)

-- the records of all lists, one list after the other
abbrev pub all_of : List (List Record) → List Record
all_of lists = flat_map (λ own. own) lists

-- the records stand in order, those of one step as they stood in the list before
pub record AreOrdered (all records : List Record) : Type 0 where
  pub shuffled : IsPermutation all records
  pub sorted : IsSorted record_cmp records
  pub stable : IsStable record_cmp all records
