use Rattle.petal_command.proofs.same.tests_tell_equality.Goals as goal
use Rattle.petal_command.proofs.Equal.{ballot_is, command_is, command_same}

pub returns : goal.returns
returns c = record { ballots = ballot_is; commands = command_is; one_command = command_same }
