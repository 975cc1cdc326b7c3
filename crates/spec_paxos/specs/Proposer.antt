-- What a proposer does at a letter about the place and ballot that it started last.
use Rattle.std.specs.Prelude.{ℕ, ◌+◌, ◌/◌, Bool, true, false, not, if◌then◌else◌, List, ◌==◌, nat_lt, nat_le, ◌&&◌, get_or, set, replicate, Option, Some, None}
use Rattle.petal_command.specs.declared.ballot.Ballot.{Ballot}
use Rattle.petal_command.specs.declared.command.Command.{Command}
use Rattle.petal_command.specs.declared.pax.Pax.{Pax}
use Rattle.petal_command.specs.declared.pax.Pax.TheVariants.{Promise, Accept, Accepted, Refuse}
use Rattle.petal_command.specs.Ballot.{number, same}
use Rattle.spec_paxos.specs.declared.phase.Phase.{Phase}
use Rattle.spec_paxos.specs.declared.phase.Phase.TheVariants.{Collecting, Voting}
use Rattle.spec_paxos.specs.declared.phase.Heard.{Heard}
use Rattle.spec_paxos.specs.declared.phase.Heard.TheVariants.{Nothing, Send, Refused}
use Rattle.spec_paxos.specs.declared.phase.Heard.TheVariants.{Chosen as Decided}
use Rattle.spec_paxos.specs.Quorum.{count_below}

-- no server was heard
unfoldable pub nobody : List Bool
nobody = replicate 256 false

abbrev pub is_in : List Bool → ℕ → Bool
is_in heard s = get_or heard s false

abbrev pub has_majority : ℕ → List Bool → Bool
has_majority n heard = nat_le (n / 2 + 1) (count_below n (is_in heard))

-- 0 for nothing accepted, else one more than the ballot's number
abbrev pub rank_of : Option (Ballot × Command) → ℕ
rank_of None = 0
rank_of (Some x) = number x.0 + 1

-- of two acceptances that of the higher ballot
abbrev pub higher : Option (Ballot × Command) → Option (Ballot × Command) → Option (Ballot × Command)
higher a b = if nat_lt (rank_of a) (rank_of b) then b else a

-- what was reported of the highest ballot, else what is wanted
abbrev pub to_propose : Command → Option (Ballot × Command) → Command
to_propose want None = want
to_propose want (Some x) = x.1

-- the proposer that starts
abbrev pub collecting : ℕ → Ballot → Command → Phase
collecting place ballot want = Collecting place ballot want nobody None

pub record Step : Type 0 where
  pub phase : Phase
  pub heard : Heard

abbrev pub still : Phase → Step
still q = record { phase = q; heard = Nothing }

-- a promise more was counted: with a majority it asks for acceptances
abbrev pub collected : ℕ → ℕ → Ballot → Command → List Bool → Option (Ballot × Command) → Step
collected n place ballot want heard best =
    if has_majority n heard
    then record { phase = Voting place ballot (to_propose want best) nobody; heard = Send (Accept place ballot (to_propose want best)) }
    else still (Collecting place ballot want heard best)

-- an acceptance more was counted: the one that completes a majority makes the command chosen
abbrev pub counted : ℕ → ℕ → Ballot → Command → List Bool → List Bool → Step
counted n place ballot command before heard =
    if not (has_majority n before) && has_majority n heard
    then record { phase = Voting place ballot command heard; heard = Decided place command }
    else still (Voting place ballot command heard)

-- the letter is about this place and ballot
abbrev pub is_for : ℕ → Ballot → ℕ → Ballot → Bool
is_for p b place ballot = (p == place) && same b ballot

-- it comes from one of the n servers, and from one that was not counted yet
abbrev pub counts : ℕ → List Bool → ℕ → Bool
counts n heard from = nat_lt from n && not (is_in heard from)

abbrev pub hear : ℕ → Phase → ℕ → Pax → Step
hear n (Collecting place ballot want heard best) from (Promise p b accepted) =
    if is_for p b place ballot && counts n heard from
    then collected n place ballot want (set heard from true) (higher best accepted)
    else still (Collecting place ballot want heard best)
hear n (Voting place ballot command heard) from (Accepted p b) =
    if is_for p b place ballot && counts n heard from
    then counted n place ballot command heard (set heard from true)
    else still (Voting place ballot command heard)
hear n (Collecting place ballot want heard best) from (Refuse p b promised) =
    if is_for p b place ballot
    then record { phase = Collecting place ballot want heard best; heard = Refused promised }
    else still (Collecting place ballot want heard best)
hear n (Voting place ballot command heard) from (Refuse p b promised) =
    if is_for p b place ballot
    then record { phase = Voting place ballot command heard; heard = Refused promised }
    else still (Voting place ballot command heard)
hear n q from l = still q
