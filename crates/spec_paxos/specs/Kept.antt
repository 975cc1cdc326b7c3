-- What a list of records stands for, in order, from nothing kept.
use Rattle.std.specs.Prelude.{ℕ, ◌+◌, ◌≡◌, ◌⊎◌, Bool, true, false, if◌then◌else◌, ◌==◌, ◌&&◌, nat_le, List, [], ◌∷◌, ◌++◌, fold, Option, Some, None}
use Rattle.petal_command.specs.declared.ballot.Ballot.{Ballot}
use Rattle.petal_command.specs.declared.command.Command.{Command}
use Rattle.petal_command.specs.Ballot.{number, same}
use Rattle.petal_command.specs.Same.{same_command}
use Rattle.spec_paxos.specs.Acceptor.{Acceptor, rank}
use Rattle.spec_paxos.specs.declared.record.StateRecord.{StateRecord}
use Rattle.spec_paxos.specs.declared.record.StateRecord.TheVariants.{Inc, Promise, Accepted, Chosen}
use Rattle.spec_paxos.specs.declared.record.Row.{Row}

abbrev pub empty_row : Row
empty_row = record { promised = None; accepted = None; chosen = None }

-- the higher of what was promised and a ballot
abbrev pub greater : Option Ballot → Ballot → Option Ballot
greater o b = if nat_le (rank o) (number b + 1) then Some b else o

abbrev pub promise_row : Row → Ballot → Row
promise_row row b = record { promised = greater row.promised b; accepted = row.accepted; chosen = row.chosen }

-- an acceptance counts as a promise of its ballot
abbrev pub accept_row : Row → Ballot → Command → Row
accept_row row b c = record { promised = greater row.promised b; accepted = Some (b, c); chosen = row.chosen }

abbrev pub choose_row : Row → Command → Row
choose_row row c = record { promised = row.promised; accepted = row.accepted; chosen = Some c }

-- what is kept for a place after one record more
abbrev pub row_after : ℕ → Row → StateRecord → Row
row_after place row (Inc inc) = row
row_after place row (Promise p b) = if p == place then promise_row row b else row
row_after place row (Accepted p b c) = if p == place then accept_row row b c else row
row_after place row (Chosen p c) = if p == place then choose_row row c else row

abbrev pub inc_after : ℕ → StateRecord → ℕ
inc_after i (Inc inc) = inc
inc_after i _ = i

-- what the records keep for a place
abbrev pub row_of : List StateRecord → ℕ → Row
row_of records place = fold (row_after place) empty_row records

-- the incarnation that they tell
abbrev pub inc_of : List StateRecord → ℕ
inc_of records = fold inc_after 0 records

-- what an acceptor keeps for a place
abbrev pub acceptor_of : List StateRecord → ℕ → Acceptor
acceptor_of records place = record { promised = (row_of records place).promised; accepted = (row_of records place).accepted }

-- the command that is known to be chosen for a place
abbrev pub known_at : List StateRecord → ℕ → Option Command
known_at records place = (row_of records place).chosen

-- ### One record more

-- a record that would change nothing of what the records stand for
pub record AddsNothing (records : List StateRecord) (entry : StateRecord) : Type 0 where
  pub rows : (place : ℕ) → row_after place (row_of records place) entry ≡ row_of records place
  pub inc : inc_after (inc_of records) entry ≡ inc_of records

-- one record more, or none where it would change nothing
abbrev pub Commits : List StateRecord → List StateRecord → StateRecord → Type 0
Commits old new entry = (AddsNothing old entry × (new ≡ old)) ⊎ ((¬ AddsNothing old entry) × (new ≡ old ++ entry ∷ []))

abbrev pub same_promise : Option Ballot → Option Ballot → Bool
same_promise None None = true
same_promise (Some a) (Some b) = same a b
same_promise _ _ = false

-- two acceptances are one: of one ballot, and of one command
abbrev pub same_acceptance : Ballot × Command → Ballot × Command → Bool
same_acceptance a b = same a.0 b.0 && same_command a.1 b.1

abbrev pub same_accepted : Option (Ballot × Command) → Option (Ballot × Command) → Bool
same_accepted None None = true
same_accepted (Some a) (Some b) = same_acceptance a b
same_accepted _ _ = false

abbrev pub same_chosen : Option Command → Option Command → Bool
same_chosen None None = true
same_chosen (Some a) (Some b) = same_command a b
same_chosen _ _ = false

abbrev pub same_row : Row → Row → Bool
same_row a b = same_promise a.promised b.promised && same_accepted a.accepted b.accepted && same_chosen a.chosen b.chosen

-- the test that tells `AddsNothing`: a record changes the row of its own place at most
abbrev pub adds_nothing : List StateRecord → StateRecord → Bool
adds_nothing records (Inc inc) = inc_of records == inc
adds_nothing records (Promise p b) = same_row (promise_row (row_of records p) b) (row_of records p)
adds_nothing records (Accepted p b c) = same_row (accept_row (row_of records p) b c) (row_of records p)
adds_nothing records (Chosen p c) = same_row (choose_row (row_of records p) c) (row_of records p)

-- the records after a commit
abbrev pub committed : List StateRecord → StateRecord → List StateRecord
committed records entry = if adds_nothing records entry then records else records ++ entry ∷ []
