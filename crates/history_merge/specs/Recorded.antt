-- The letters that are delivered, and what their senders' records have.
use Rattle.std.specs.Prelude.{◌≡◌, ◌≢◌, ℕ, Bool, true, false, List, [], ◌∷◌, Option, Some, None, if◌then◌else◌, slice_get}
use Rattle.std.specs.List.Sorted.{IsPartitionPoint}
use Rattle.std.specs.Ordering.{is_eq, is_lt, nat_cmp, ordering_then}
use Rattle.std.specs.declared.cmp.Ordering.{Ordering}
use Rattle.petal_msg.specs.declared.letter.Letter.{Letter}
use Rattle.spec_rules.specs.Lists.{In}
use Rattle.spec_rules.specs.World.{letter_in}
use Rattle.spec_history.specs.declared.record.Record.{Record}
use Rattle.history_merge.specs.Order.{actor_cmp}

-- where the record stands, beside the step by which the letter says that it was sent
abbrev pub sender_cmp : Record → Letter → Ordering
sender_cmp own letter = ordering_then (nat_cmp own.stamp letter.stamp) (actor_cmp own.actor letter.from)

-- it is of that step
abbrev pub is_sender : Letter → Record → Bool
is_sender letter own = is_eq (sender_cmp own letter)

-- what f gives of the first item that passes a test
abbrev pub first_by : {X A : Type 0} → (X → Bool) → (X → Option A) → List X → Option A
first_by test f [] = None
first_by test f (x ∷ xs) = if test x then f x else first_by test f xs

-- what the first record of that step has in the letter's place
abbrev pub recorded_as : List Record → Letter → Option Letter
recorded_as records letter = first_by (is_sender letter) (λ own. slice_get own.sent letter.nth) records

-- the first of the records that does not stand before that step is at this place
abbrev pub IsPlaceOf : List Record → Letter → ℕ → Type 0
IsPlaceOf records letter place =
    IsPartitionPoint (λ own. is_lt (sender_cmp own letter) ≡ true) (λ own. is_lt (sender_cmp own letter) ≡ false) records place

-- the letter that comes in a record is what its sender's record has
abbrev pub ComesAsSent : List Record → Record → Type 0
ComesAsSent records own = (letter : Letter) → letter_in own.step ≡ Some letter → recorded_as records letter ≡ Some letter

-- so is each
abbrev pub AreRecorded : List Record → Type 0
AreRecorded records = (own : Record) → In own records → ComesAsSent records own

-- this letter comes in the record, and its sender's record has this instead
pub record ComesOtherwise (records : List Record) (own : Record) (delivered : Letter) (recorded : Option Letter) : Type 0 where
  pub comes : letter_in own.step ≡ Some delivered
  pub has : recorded_as records delivered ≡ recorded
  pub differs : recorded ≢ Some delivered

-- it does so in one of the records
pub record IsMismatch (records : List Record) (delivered : Letter) (recorded : Option Letter) : Type 0 where
  pub own : Record
  pub there : In own records
  pub so : ComesOtherwise records own delivered recorded
