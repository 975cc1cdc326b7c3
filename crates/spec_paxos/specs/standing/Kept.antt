-- What a list of records stands for, in order, from nothing kept.
use Rattle.std.specs.Prelude.{ℕ, ◌+◌, ◌≤◌, ◌≡◌, ◌⊎◌, Bool, if◌then◌else◌, ◌==◌, nat_le, min, List, [], ◌∷◌, ◌++◌, fold, Option, Some, None}
use Rattle.petal_command.specs.declared.ballot.Ballot.{Ballot}
use Rattle.petal_command.specs.declared.command.Command.{Command}
use Rattle.petal_command.specs.Ballot.{number}
use Rattle.spec_paxos.specs.Acceptor.{rank}
use Rattle.spec_paxos.specs.Kept.{empty_row, greater, promise_row, accept_row, choose_row, same_row}
use Rattle.spec_paxos.specs.declared.record.Row.{Row}
use Rattle.spec_paxos.specs.standing.Letters.{Report}

-- what one commit adds to a state device
pub data StateRecord : Type 0 where
  -- the server's incarnation
  Inc : (inc : ℕ) → StateRecord
  -- for every place from this one on the ballot was promised
  PromiseFrom : (place : ℕ) → (ballot : Ballot) → StateRecord
  -- at the place the command was accepted in the ballot
  Accepted : (place : ℕ) → (ballot : Ballot) → (command : Command) → StateRecord
  -- at the place the command is chosen
  Chosen : (place : ℕ) → (command : Command) → StateRecord

-- what is kept for a place after one record more
abbrev pub row_after : ℕ → Row → StateRecord → Row
row_after place row (Inc inc) = row
row_after place row (PromiseFrom p b) = if nat_le p place then promise_row row b else row
row_after place row (Accepted p b c) = if p == place then accept_row row b c else row
row_after place row (Chosen p c) = if p == place then choose_row row c else row

-- what the records keep for a place
abbrev pub row_of : List StateRecord → ℕ → Row
row_of records place = fold (row_after place) empty_row records

-- the highest ballot promised for the place, or accepted in there
abbrev pub promised_at : List StateRecord → ℕ → Option Ballot
promised_at records place = (row_of records place).promised

-- what was accepted last at the place
abbrev pub accepted_at : List StateRecord → ℕ → Option (Ballot × Command)
accepted_at records place = (row_of records place).accepted

-- the command that is known to be chosen for the place
abbrev pub known_at : List StateRecord → ℕ → Option Command
known_at records place = (row_of records place).chosen

abbrev pub inc_after : ℕ → StateRecord → ℕ
inc_after i (Inc inc) = inc
inc_after i _ = i

-- the incarnation that the records tell
abbrev pub inc_of : List StateRecord → ℕ
inc_of records = fold inc_after 0 records

-- each promise is one for some of the places from this one on
abbrev pub highest_after : ℕ → Option Ballot → StateRecord → Option Ballot
highest_after place o (PromiseFrom p b) = greater o b
highest_after place o (Accepted p b c) = if nat_le place p then greater o b else o
highest_after place o _ = o

-- the highest ballot promised for any place from this one on, or accepted in there
abbrev pub promised_from : List StateRecord → ℕ → Option Ballot
promised_from records place = fold (highest_after place) None records

abbrev pub covering_after : ℕ → Option Ballot → StateRecord → Option Ballot
covering_after place o (PromiseFrom p b) = if nat_le p place then greater o b else o
covering_after place o _ = o

-- the highest ballot of the promises that cover every place from this one on
abbrev pub covering : List StateRecord → ℕ → Option Ballot
covering records place = fold (covering_after place) None records

-- ### Acceptances by rising place

abbrev pub least : Option ℕ → Option ℕ → Option ℕ
least None b = b
least (Some a) None = Some a
least (Some a) (Some b) = Some (min a b)

-- the place, where it is not below `from` and something was accepted there
abbrev pub place_from : ℕ → StateRecord → Option ℕ
place_from from (Accepted p b c) = if nat_le from p then Some p else None
place_from from _ = None

-- the least place not below `from` at which something was accepted
abbrev pub next_place : List StateRecord → ℕ → Option ℕ
next_place [] from = None
next_place (entry ∷ records) from = least (place_from from entry) (next_place records from)

abbrev pub report : ℕ → Option (Ballot × Command) → Option Report
report place None = None
report place (Some accepted) = Some (place, accepted.0, accepted.1)

abbrev pub report_at : List StateRecord → Option ℕ → Option Report
report_at records None = None
report_at records (Some place) = report place (accepted_at records place)

-- what was accepted last at the least such place
abbrev pub next_accepted : List StateRecord → ℕ → Option Report
next_accepted records from = report_at records (next_place records from)

-- ### One record more

-- a record that would change nothing: a promise that another one covers, or else the row of its place stays as it is
abbrev pub AddsNothing : List StateRecord → StateRecord → Type 0
AddsNothing records (Inc inc) = inc_of records ≡ inc
AddsNothing records (PromiseFrom p b) = number b + 1 ≤ rank (covering records p)
AddsNothing records (Accepted p b c) = accept_row (row_of records p) b c ≡ row_of records p
AddsNothing records (Chosen p c) = choose_row (row_of records p) c ≡ row_of records p

-- one record more, or none where it would change nothing
abbrev pub Commits : List StateRecord → List StateRecord → StateRecord → Type 0
Commits old new entry = (AddsNothing old entry × (new ≡ old)) ⊎ ((¬ AddsNothing old entry) × (new ≡ old ++ entry ∷ []))

-- the test that tells `AddsNothing`
abbrev pub adds_nothing : List StateRecord → StateRecord → Bool
adds_nothing records (Inc inc) = inc_of records == inc
adds_nothing records (PromiseFrom p b) = nat_le (number b + 1) (rank (covering records p))
adds_nothing records (Accepted p b c) = same_row (accept_row (row_of records p) b c) (row_of records p)
adds_nothing records (Chosen p c) = same_row (choose_row (row_of records p) c) (row_of records p)

-- the records after a commit
abbrev pub committed : List StateRecord → StateRecord → List StateRecord
committed records entry = if adds_nothing records entry then records else records ++ entry ∷ []
