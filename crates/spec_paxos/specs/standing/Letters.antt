-- What proposers and acceptors tell one another, and what a proposer says of a letter.
use Rattle.std.specs.Prelude.{ℕ, List, Option}
use Rattle.petal_command.specs.declared.ballot.Ballot.{Ballot}
use Rattle.petal_command.specs.declared.command.Command.{Command}

-- what was accepted at a place, and in which ballot
abbrev pub Report : Type 0
Report = ℕ × Ballot × Command

pub data Letter : Type 0 where
  -- promise, for every place from this one on, to take part in no ballot below this one
  Prepare : (from : ℕ) → (ballot : Ballot) → Letter
  -- promised, with what was accepted so far at places from this one on, by rising place. `until` is none where that is all,
  -- else the last place listed
  Promise : (from : ℕ) → (ballot : Ballot) → (until : Option ℕ) → (accepted : List Report) → Letter
  -- accept this command in this ballot
  Accept : (place : ℕ) → (ballot : Ballot) → (command : Command) → Letter
  -- accepted
  Accepted : (place : ℕ) → (ballot : Ballot) → Letter
  -- a higher ballot was promised
  Refuse : (place : ℕ) → (ballot : Ballot) → (promised : Ballot) → Letter
  -- a majority accepted this command in one ballot
  Chosen : (place : ℕ) → (command : Command) → Letter
