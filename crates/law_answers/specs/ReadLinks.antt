-- From which server's link a read is answered.
use Rattle.law_answers.specs.Imports.{Cell, Deliver, Handled, In, IsMoment, Letter, Line, LinkRow, Lost, Record, Setting, State, bytes_of, cell_link}
use Rattle.law_answers.specs.Imports.{chain_in, chosen_state, entry_at, line_by, serves, stage_at, start, world_after}
use Rattle.std.specs.Prelude.{◌++◌, ◌∷◌, ◌≡◌, ◌≢◌, List, None, Some, true, ℕ}
use Rattle.petal_msg.specs.declared.body.Body.TheVariants.{Data, Read}
use Rattle.law_answers.specs.Looks.{IsCalledIn}
use Rattle.petal_msg.specs.declared.letter.Actor.TheVariants as actor

-- by this state the server serves the cell's link, which so is not Lost; and where the cell has no link any more, its map is retired
pub record IsUnlost (state : State) (server : ℕ) (cell : Cell) : Type 0 where
  pub served : (row : LinkRow) → cell_link state cell ≡ Some row → serves server row row.state ≡ true
  pub kept : (row : LinkRow) → cell_link state cell ≡ Some row → row.state ≢ Lost
  pub gone : cell_link state cell ≡ None → stage_at state cell ≡ 4

-- the letter that is accepted for the line was sent, after the line's call and before the answer, by a server that handled the read of this line:
-- its bytes are those of the entry that the server had of the cell, whose link was not Lost by what was chosen then
pub record IsReadFrom (setting : Setting) (records : List Record) (answer : IsMoment records) (number : ℕ) (bytes : List ℕ) : Type 0 where
  pub moment : IsMoment records
  pub open moment use *
  pub between : List Record
  pub answered : answer.prefix ≡ prefix ++ own ∷ between
  pub client : ℕ
  pub seq : ℕ
  pub letter : Letter
  pub sent : In letter own.sent
  pub says : letter.body ≡ Data seq bytes
  pub accepted : answer.own.step ≡ Deliver letter
  pub server : ℕ
  pub who : own.actor ≡ actor.Server server
  pub cell : Cell
  pub epoch : ℕ
  pub handled : Handled (world_after setting (start setting) prefix) server (Read client seq cell epoch)
  pub line : Line
  pub line_is : line_by setting.lines client seq ≡ Some line
  pub number_is : line.number ≡ number
  pub called : IsCalledIn prefix line
  pub bytes_are : bytes ≡ bytes_of (entry_at (chain_in ((world_after setting (start setting) prefix).servers server).own.store.chains cell) epoch)
  pub link : IsUnlost (chosen_state setting (world_after setting (start setting) prefix)) server cell
