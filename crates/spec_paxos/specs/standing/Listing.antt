-- What an acceptor's promise covers and lists, told of its records.
use Rattle.std.specs.Prelude.{ℕ, ◌+◌, ◌≤◌, ◌<◌, ◌≡◌, ◌⊎◌, true, List, [], ◌∷◌, length, Option, Some, None, ⊤}
use Rattle.petal_command.specs.declared.ballot.Ballot.{Ballot}
use Rattle.petal_command.specs.declared.command.Command.{Command}
use Rattle.spec_paxos.specs.Member.{In}
use Rattle.spec_paxos.specs.standing.Letters.{Report}
use Rattle.spec_paxos.specs.standing.Kept.{StateRecord, accepted_at}
use Rattle.spec_paxos.specs.standing.Acceptor.{last_place}
use Rattle.spec_paxos.specs.standing.Proposer.{is_within}

-- this was accepted last at the place
abbrev pub IsAccepted : List StateRecord → ℕ → Ballot × Command → Type 0
IsAccepted records place x = accepted_at records place ≡ Some x

-- the report of the least place not below `from` at which something was accepted; none where there is none
abbrev pub IsNext : List StateRecord → ℕ → Option Report → Type 0
IsNext records from None = (place : ℕ) (x : Ballot × Command) → IsAccepted records place x → place < from
IsNext records from (Some r) =
    (from ≤ r.0) × IsAccepted records r.0 (r.1, r.2)
    × ((place : ℕ) (x : Ballot × Command) → IsAccepted records place x → from ≤ place → r.0 ≤ place)

-- by rising place, from this one on
abbrev pub IsRisingFrom : ℕ → List Report → Type 0
IsRisingFrom from [] = ⊤
IsRisingFrom from (r ∷ rest) = (from ≤ r.0) × IsRisingFrom (r.0 + 1) rest

-- it tells all, or all up to this last place, where the list is full
abbrev pub IsEnd : Option ℕ → (last listed most : ℕ) → Type 0
IsEnd until last listed most = (until ≡ None) ⊎ ((until ≡ Some last) × (listed ≡ most))

-- the list has what was accepted last at each place of the range, and nothing else. The range is without end exactly where nothing is
-- left out
pub record IsListing (records : List StateRecord) (from most : ℕ) (until : Option ℕ) (told : List Report) : Type 0 where
  pub accepted : (r : Report) → In r told → IsAccepted records r.0 (r.1, r.2)
  pub all : (place : ℕ) (x : Ballot × Command) → IsAccepted records place x → from ≤ place → is_within until place ≡ true → In (place, x.0, x.1) told
  pub rising : IsRisingFrom from told
  pub short : length told ≤ most
  pub ends : IsEnd until (last_place from told) (length told) most
  pub more : (last : ℕ) → until ≡ Some last → (place : ℕ) × (x : Ballot × Command) × IsAccepted records place x × (last < place)
