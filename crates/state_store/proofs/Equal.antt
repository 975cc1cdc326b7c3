-- Two rows are found equal by `==` exactly where they are one.
use Rattle.std.proofs.Common.{◌≡◌, true, Option, ap}
use Rattle.std.specs.Option.{option_eq}
use Rattle.petal_command.proofs.Alike.{ballot_by, command_tells, vote_by}
use Rattle.petal_command.proofs.Telling.{Tells, TellsAll, tells_option, telling}
use Rattle.petal_command.specs.contracts.ballot.BallotPartialEq.TheImpl as ballots
use Rattle.petal_command.specs.contracts.command.CommandPartialEq.TheImpl as commands
use Rattle.petal_command.specs.declared.ballot.Ballot.{Ballot}
use Rattle.petal_command.specs.declared.command.Command.{Command}
use Rattle.spec_paxos.specs.contracts.record.RowEq.TheImpl.Laws as equal_rows
use Rattle.spec_paxos.specs.contracts.record.RowPartialEq.TheImpl as rows
use Rattle.spec_paxos.specs.declared.record.Row.{Row}

ballot_tells : TellsAll ballots.ghosts.eq
ballot_tells = search (ballot_by, telling)

module _ {K : Type 0} where
  promise_by : (part : K → Option Ballot) → Tells (λ x y. option_eq ballots.ghosts.eq (part x) (part y)) part
  promise_by part = tells_option ballot_tells part

  choice_by : (part : K → Option Command) → Tells (λ x y. option_eq commands.ghosts.eq (part x) (part y)) part
  choice_by part = tells_option command_tells part

abbrev Fields : Type 0
Fields = Option Ballot × (Option (Ballot × Command) × Option Command)

abbrev fields : Row → Fields
fields a = (a.promised, (a.accepted, a.chosen))

fields_tell : Tells rows.ghosts.eq fields
fields_tell = search (promise_by, vote_by, choice_by, telling)

abbrev row_of : Fields → Row
row_of f = record { promised = f.0; accepted = f.1.0; chosen = f.1.1 }

pub row_is : (a b : Row) → rows.ghosts.eq a b ≡ true → a ≡ b
row_is a b e = ap row_of (fields_tell.same a b e)

pub row_itself : (a : Row) → rows.ghosts.eq a a ≡ true
row_itself a = equal_rows.lawful.laws.refl a
