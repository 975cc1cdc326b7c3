-- The operator's open line, and what it asks of a server.
use Rattle.law_answers.specs.Imports.{Asked, In, IsOpenLine, Line, Request, World, operator}
use Rattle.std.specs.Prelude.{◌≡◌, ◌⊎◌, List, ℕ}
use Rattle.script_lines.specs.declared.request.Request.TheVariants as request

-- the operator has this request open, which was not glanced at, and it is that of this line
pub record IsLineOf (lines : List Line) (w : World) (asked : Asked) (line : Line) : Type 0 where
  pub opened : IsOpenLine w asked
  pub there : In line lines
  pub own : line.client ≡ operator
  pub line_is : asked.line ≡ line.number
  pub request_is : asked.request ≡ line.request

-- the request stops this server, where it runs: a stop, or a blank
abbrev pub AsksToStop : Request → ℕ → Type 0
AsksToStop asked n = (asked ≡ request.Stop n) ⊎ (asked ≡ request.Blank n)

-- the request boots it: a start, or a blank
abbrev pub AsksToBoot : Request → ℕ → Type 0
AsksToBoot asked n = (asked ≡ request.Start n) ⊎ (asked ≡ request.Blank n)
