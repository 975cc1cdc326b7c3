-- What an acceptor does at a letter, over the records on its state device.
use Rattle.std.specs.Prelude.{ℕ, zero, suc, ◌+◌, Bool, if◌then◌else◌, nat_le, List, [], ◌∷◌, Option, Some, None, is_some, unwrap_or}
use Rattle.petal_command.specs.declared.ballot.Ballot.{Ballot}
use Rattle.petal_command.specs.declared.command.Command.{Command}
use Rattle.petal_command.specs.Ballot.{number}
use Rattle.spec_paxos.specs.Acceptor.{rank}
use Rattle.spec_paxos.specs.standing.Letters.{Report, Letter, Promise, Accepted, Refuse}
use Rattle.spec_paxos.specs.standing.Kept.{StateRecord, PromiseFrom, promised_at, promised_from, next_accepted, committed}
use Rattle.spec_paxos.specs.standing.Kept.{Accepted as Vote}

-- a promise lists so many acceptances at most
abbrev pub most_listed : ℕ
most_listed = 64

-- nothing was promised to a higher ballot at the place
abbrev pub is_open_at : List StateRecord → ℕ → Ballot → Bool
is_open_at records place b = nat_le (rank (promised_at records place)) (number b + 1)

-- nothing was promised to a higher ballot at any place from this one on
abbrev pub is_open_from : List StateRecord → ℕ → Ballot → Bool
is_open_from records from b = nat_le (rank (promised_from records from)) (number b + 1)

-- nothing was promised to this ballot or a higher one at any place from this one on
abbrev pub is_unpromised_from : List StateRecord → ℕ → Ballot → Bool
is_unpromised_from records from b = nat_le (rank (promised_from records from)) (number b)

-- ### What a promise lists

-- the place behind a report
abbrev pub behind : ℕ → Option Report → ℕ
behind from None = from
behind from (Some r) = r.0 + 1

abbrev pub before_rest : Option Report → List Report → List Report
before_rest None rest = []
before_rest (Some r) rest = r ∷ rest

-- the acceptances at places from this one on, by rising place, and so many at most
abbrev pub listed : List StateRecord → (from most : ℕ) → List Report
listed records from zero = []
listed records from (suc most) = before_rest (next_accepted records from) (listed records (behind from (next_accepted records from)) most)

-- the place of the last report, and this one where there is none
abbrev pub last_place : ℕ → List Report → ℕ
last_place place [] = place
last_place place (r ∷ rest) = last_place r.0 rest

-- the place, where more is accepted behind it
abbrev pub if_more : List StateRecord → ℕ → Option ℕ
if_more records place = if is_some (next_accepted records (place + 1)) then Some place else None

-- up to which place the list tells all: none where it does everywhere
abbrev pub until_of : List StateRecord → List Report → Option ℕ
until_of records [] = None
until_of records (r ∷ rest) = if_more records (last_place r.0 rest)

-- ### What it does at a letter

abbrev pub on_prepare : List StateRecord → ℕ → Ballot → List StateRecord
on_prepare records from b = if is_open_from records from b then committed records (PromiseFrom from b) else records

abbrev pub promise_of : ℕ → List StateRecord → ℕ → Ballot → Letter
promise_of most records from b = Promise from b (until_of records (listed records from most)) (listed records from most)

abbrev pub prepare_reply : ℕ → List StateRecord → ℕ → Ballot → Letter
prepare_reply most records from b =
    if is_open_from records from b then promise_of most records from b else Refuse from b (unwrap_or (promised_from records from) b)

abbrev pub on_accept : List StateRecord → ℕ → Ballot → Command → List StateRecord
on_accept records place b c = if is_open_at records place b then committed records (Vote place b c) else records

abbrev pub accept_reply : List StateRecord → ℕ → Ballot → Letter
accept_reply records place b = if is_open_at records place b then Accepted place b else Refuse place b (unwrap_or (promised_at records place) b)
