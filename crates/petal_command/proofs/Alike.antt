-- Two ballots, commands or letters of proposers and acceptors that `==` finds equal are one.
use Rattle.std.proofs.Common.{◌&&◌, Bool, Option}
use Rattle.std.specs.Option.{option_eq}
use Rattle.petal_command.specs.contracts.ballot.BallotPartialEq.TheImpl as ballots
use Rattle.petal_command.specs.contracts.command.Command as a_command
use Rattle.petal_command.specs.contracts.command.CommandPartialEq.TheImpl as commands
use Rattle.petal_command.specs.contracts.pax.Pax as a_pax
use Rattle.petal_command.specs.contracts.pax.PaxPartialEq.TheImpl as paxes
use Rattle.petal_command.specs.declared.ballot.Ballot.{Ballot}
use Rattle.petal_command.specs.declared.command.Command.{Command}
use Rattle.petal_command.specs.declared.pax.Pax.{Pax}
use Rattle.petal_command.proofs.Equal.{both_left, both_right}
use Rattle.petal_command.proofs.Telling.{Tells, TellsAll, enum_tells, tells_by, tells_option, telling}

pub command_tells : TellsAll commands.ghosts.eq
command_tells = enum_tells a_command.enum _ (search telling)

module _ {K : Type 0} where
  pub ballot_by : {E F : K → K → Bool} {part : K → Ballot} → Tells E (λ x. (part x).round) → Tells F (λ x. (part x).server)
      → Tells (λ x y. E x y && F x y) part
  ballot_by {E = E} {F} t u = record {
    same = λ x y e.
        let round = t.same x y (both_left (E x y) (F x y) e) in
        let server = u.same x y (both_right (E x y) (F x y) e) in λ i. record { round = round i; server = server i };
  }

  pub command_by : (part : K → Command) → Tells (λ x y. commands.ghosts.eq (part x) (part y)) part
  command_by part = tells_by part command_tells

-- what an acceptor may have accepted
abbrev same_vote : Ballot × Command → Ballot × Command → Bool
same_vote a b = ballots.ghosts.eq a.0 b.0 && commands.ghosts.eq a.1 b.1

vote_tells : TellsAll same_vote
vote_tells = search (ballot_by, command_by, telling)

module _ {K : Type 0} where
  pub vote_by : (part : K → Option (Ballot × Command)) → Tells (λ x y. option_eq same_vote (part x) (part y)) part
  vote_by part = tells_option vote_tells part

pub pax_tells : TellsAll paxes.ghosts.eq
pax_tells = enum_tells a_pax.enum _ (search (ballot_by, command_by, vote_by, telling))

module _ {K : Type 0} where
  pub pax_by : (part : K → Pax) → Tells (λ x y. paxes.ghosts.eq (part x) (part y)) part
  pax_by part = tells_by part pax_tells
