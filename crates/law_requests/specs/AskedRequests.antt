-- What a client's request of a number is, by the script and by the state at which it is sent.
use Rattle.law_requests.specs.Imports.{Asked, Cell, Client, DiskView, In, Letter, Line, Pattern, State, cell_asked, epoch_for, find, line_by, pattern_block}
use Rattle.std.specs.Prelude.{◌<◌, ◌≡◌, ◌≤◌, Bool, List, Option, Some, false, length, true, ℕ}
use Rattle.script_lines.specs.declared.request.Request.TheVariants as request
use Rattle.petal_msg.specs.declared.body.Body.TheVariants as body
use Rattle.petal_msg.specs.declared.letter.Actor.TheVariants as actor

-- the client's line of this number asks for a write
pub record AsksWrite (lines : List Line) (client seq : ℕ) : Type 0 where
  pub line : Line
  pub is : line_by lines client seq ≡ Some line
  pub name : List ℕ
  pub block : ℕ
  pub pattern : Pattern
  pub asks : line.request ≡ request.Write name block pattern

-- the client's request of this number is a write of this cell with these bytes. In a region that is on its way it is of the new map's cell
pub record IsWrite (state : State) (lines : List Line) (client seq : ℕ) (cell : Cell) (bytes : List ℕ) : Type 0 where
  pub by_line : AsksWrite lines client seq
  pub open by_line use *
  pub disk : DiskView
  pub found : find state name ≡ Some disk
  pub cell_is : cell ≡ cell_asked state disk block false
  pub bytes_is : bytes ≡ pattern_block pattern

-- the client's line of this number asks for a read
pub record AsksRead (lines : List Line) (client seq : ℕ) : Type 0 where
  pub line : Line
  pub is : line_by lines client seq ≡ Some line
  pub name : List ℕ
  pub snap : Option (List ℕ)
  pub block : ℕ
  pub asks : line.request ≡ request.Read name snap block

-- it is a read of this cell at this epoch. In a region that is on its way it is of the new map's cell, or of the old one's where its client was
-- told that the new map has nothing
pub record IsRead (state : State) (lines : List Line) (client seq : ℕ) (told : Bool) (cell : Cell) (epoch : ℕ) : Type 0 where
  pub by_line : AsksRead lines client seq
  pub open by_line use *
  pub disk : DiskView
  pub found : find state name ≡ Some disk
  pub cell_is : cell ≡ cell_asked state disk block told
  pub epoch_is : epoch_for state disk snap ≡ Some epoch

-- the open request is the client's last one, and that of its line; and its latest send was at a revision that the client has come to
pub record IsAsked (lines : List Line) (c : ℕ) (client : Client) (asked : Asked) : Type 0 where
  pub line : Line
  pub is : line_by lines c asked.seq ≡ Some line
  pub number : asked.line ≡ line.number
  pub asks : asked.request ≡ line.request
  pub last : asked.seq ≡ client.seq
  pub reached : asked.rev ≤ length client.applied
  pub within : c < 9

-- the request of this number is open
pub record IsOpen (client : Client) (seq : ℕ) : Type 0 where
  pub asked : Asked
  pub is : client.asked ≡ Some asked
  pub same : asked.seq ≡ seq

-- it is open, and its latest send is of this revision or a later one
pub record IsOpenFrom (client : Client) (seq rev : ℕ) : Type 0 where
  pub now : IsOpen client seq
  pub sent : rev ≤ now.asked.rev

-- a letter of this revision told the client that the new map has nothing for its request of this number
pub record WasToldAt (sent : List Letter) (client seq rev : ℕ) : Type 0 where
  pub letter : Letter
  pub there : In letter sent
  pub to : letter.to ≡ actor.Client client
  pub is : letter.body ≡ body.NotHere seq
  pub at : letter.rev ≡ rev

-- an open request that was ever told so has a letter that told it; and one that asks the old map by its latest send has one of that revision
pub record HasItsWay (sent : List Letter) (client : ℕ) (asked : Asked) : Type 0 where
  pub told : asked.saw_missing ≡ true → (rev : ℕ) × WasToldAt sent client asked.seq rev
  pub old_way : asked.old_way ≡ true → WasToldAt sent client asked.seq asked.rev
