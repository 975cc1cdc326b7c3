-- That the commands of a log that carry requests out were asked for.
use Rattle.law_answers.specs.Imports.{Command, In, Line, asker, command_of, lines_of}
use Rattle.std.specs.Prelude.{◌+◌, ◌≡◌, List, Some, slice_get, ℕ}

-- the client's line of this number asks for the command. The lines of a client are its requests, counted from 1
pub record IsAsked (lines : List Line) (client seq : ℕ) (command : Command) : Type 0 where
  pub before : ℕ
  pub line : Line
  pub is : slice_get (lines_of lines client) before ≡ Some line
  pub seq_is : seq ≡ before + 1
  pub own : command_of client seq line.request ≡ Some command

-- each command of the log that carries a request out was asked for by the line that it names
abbrev pub AreAsked : List Line → List Command → Type 0
AreAsked lines log = (client seq : ℕ) (command : Command) → asker command ≡ Some (client, seq) → In command log → IsAsked lines client seq command
