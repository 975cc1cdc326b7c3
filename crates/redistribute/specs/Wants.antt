-- What is wanted, if anything.
use Rattle.std.specs.Prelude.{List, [], ◌∷◌, Option, None, Some}
use Rattle.petal_command.specs.declared.command.Command.{Command}

abbrev pub listed : Option Command → List Command
listed None = []
listed (Some command) = command ∷ []
