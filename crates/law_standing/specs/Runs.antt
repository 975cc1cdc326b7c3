-- Schedules of three servers that are computed.
use Rattle.std.specs.Prelude.{List, [], ◌∷◌, ◌++◌}
use Rattle.petal_command.specs.declared.ballot.Ballot.{Ballot}
use Rattle.petal_command.specs.declared.command.Command.{Command}
use Rattle.spec_paxos.specs.standing.Acceptor.{most_listed}
use Rattle.spec_paxos.specs.standing.Schedule.{Setting, Event, Starts, Proposes, Handed, Goes}

abbrev pub three : Setting
three = record { servers = 3; most = most_listed }

abbrev pub three_lists_one : Setting
three_lists_one = record { servers = 3; most = 1 }

abbrev pub first : Ballot
first = record { round = 1; server = 0 }

abbrev pub second : Ballot
second = record { round = 1; server = 1 }

abbrev pub third : Ballot
third = record { round = 2; server = 2 }

-- server 0 stands for all places by its own promise and that of server 2, and proposes x for place 1, which it alone accepts.
-- Server 1 stands by its own promise and that of server 0, and proposes for the places 1 and 2
abbrev pub takes_over : Command → Command → List Event
takes_over x y =
    Starts 0 1 1 Goes ∷ Handed 0 0 Goes ∷ Handed 1 2 Goes ∷ Handed 1 0 Goes ∷ Handed 0 0 Goes ∷ Proposes 0 1 x ∷ Handed 0 0 Goes
    ∷ Starts 1 1 1 Goes ∷ Handed 0 0 Goes ∷ Handed 1 1 Goes ∷ Handed 1 1 Goes ∷ Handed 0 1 Goes ∷ Proposes 1 1 y ∷ Proposes 1 2 y
    ∷ Handed 6 0 Goes ∷ []

-- in the first ballot server 0 accepts a at place 2 and d at place 3; in the second one server 1 accepts b at place 1, and the servers 1
-- and 2 accept c at place 2
abbrev pub before_third : (a b c d : Command) → List Event
before_third a b c d =
    Starts 0 1 1 Goes ∷ Handed 0 0 Goes ∷ Handed 1 2 Goes ∷ Handed 1 0 Goes ∷ Handed 0 0 Goes ∷ Proposes 0 2 a ∷ Proposes 0 3 d
    ∷ Handed 1 0 Goes ∷ Handed 1 0 Goes
    ∷ Starts 1 1 1 Goes ∷ Handed 0 1 Goes ∷ Handed 1 2 Goes ∷ Handed 1 1 Goes ∷ Handed 0 1 Goes ∷ Proposes 1 1 b ∷ Proposes 1 2 c
    ∷ Handed 1 1 Goes ∷ Handed 1 1 Goes ∷ Handed 2 2 Goes ∷ []

-- then server 2 starts the third ballot, hears the promises of the servers 0 and 1, and wants e for place 2, and for place 1
abbrev pub with_third : (a b c d e : Command) → List Event
with_third a b c d e = before_third a b c d
    ++ Starts 2 1 2 Goes ∷ Handed 0 0 Goes ∷ Handed 1 1 Goes ∷ Handed 1 2 Goes ∷ Handed 0 2 Goes ∷ Proposes 2 2 e ∷ Proposes 2 1 e ∷ []
