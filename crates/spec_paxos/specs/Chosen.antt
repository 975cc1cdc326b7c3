-- Which commands are chosen, as the records on all state devices tell it. A record that accepts is a vote, and stays.
use Rattle.std.specs.Prelude.{ℕ, zero, suc, ◌+◌, ◌/◌, ◌≡◌, ◌==◌, max, Bool, true, if◌then◌else◌, nat_le, List, [], ◌∷◌, map}
use Rattle.std.specs.Prelude.{find, fold, Option, Some, None, option_map}
use Rattle.std.specs.List.{flat_map, filter_map, list_any, range_with_len}
use Rattle.petal_command.specs.declared.ballot.Ballot.{Ballot}
use Rattle.petal_command.specs.declared.command.Command.{Command}
use Rattle.spec_paxos.specs.Kept.{same_acceptance}
use Rattle.spec_paxos.specs.Member.{In}
use Rattle.spec_paxos.specs.Quorum.{IsMajority, count_below}
use Rattle.spec_paxos.specs.declared.record.StateRecord.{StateRecord}
use Rattle.spec_paxos.specs.declared.record.StateRecord.TheVariants.{Accepted}

-- the records on each server's state device
abbrev pub Devices : Type 0
Devices = ℕ → List StateRecord

-- what the record accepts at the place
abbrev pub acceptance_at : ℕ → StateRecord → Option (Ballot × Command)
acceptance_at place (Accepted p b c) = if p == place then Some (b, c) else None
acceptance_at place _ = None

-- the votes of a server for a place
abbrev pub votes_for : List StateRecord → ℕ → List (Ballot × Command)
votes_for records place = filter_map (acceptance_at place) records

abbrev pub has_voted : List StateRecord → ℕ → Ballot × Command → Bool
has_voted records place vote = list_any (same_acceptance vote) (votes_for records place)

-- of the n servers a majority voted so
abbrev pub wins : ℕ → Devices → ℕ → Ballot × Command → Bool
wins n devices place vote = nat_le (n / 2 + 1) (count_below n (λ s. has_voted (devices s) place vote))

-- the command that is chosen for a place
abbrev pub chosen_at : ℕ → Devices → ℕ → Option Command
chosen_at n devices place = option_map (λ vote. vote.1) (find (wins n devices place) (flat_map (λ s. votes_for (devices s) place) (range_with_len 0 n)))

-- the command has, in one ballot, the votes of a majority
abbrev pub IsChosenBy : ℕ → Devices → ℕ → Command → Type 0
IsChosenBy n devices place command =
    (ballot : Ballot) × (who : ℕ → Bool) × IsMajority n who × ((s : ℕ) → who s ≡ true → In (Accepted place ballot command) (devices s))

abbrev pub before_first : Option Command → List Command → List Command
before_first None later = []
before_first (Some command) later = command ∷ later

-- the place at which a record votes; 0 for one that does not
abbrev pub vote_place : StateRecord → ℕ
vote_place (Accepted place ballot command) = place
vote_place _ = 0

-- the last place at which one of the n servers voted
abbrev pub last_place : ℕ → Devices → ℕ
last_place n devices = fold max 0 (map vote_place (flat_map devices (range_with_len 0 n)))

-- the commands chosen for this place and the ones after it, up to the first place without one, and so many at most
abbrev pub chosen_from : ℕ → Devices → (place most : ℕ) → List Command
chosen_from n devices place zero = []
chosen_from n devices place (suc most) = before_first (chosen_at n devices place) (chosen_from n devices (place + 1) most)

-- the longest list of commands chosen for the places 1, 2, ..
abbrev pub chosen_log : ℕ → Devices → List Command
chosen_log n devices = chosen_from n devices 1 (last_place n devices)
