-- What many lemmas of the run are told of: a world of a legal history with what is known of it.
use Rattle.law_run.proofs.Imports.{Firm, Plain, Setting, State, World}
use Rattle.law_run.specs.MachineTies.{Follow, Ground}
use Rattle.law_run.proofs.ChosenDisks.{rows_in, Along}

pub record Grounded : Type 0 where
  pub setting : Setting
  pub state : State
  pub w : World
  pub firm : Firm setting w
  pub ground : Ground setting state w

-- the same along the chosen states, and the machine that has followed the history
pub record Followed : Type 0 where
  pub setting : Setting
  pub state : State
  pub w : World
  pub m : Plain
  pub along : Along setting state w
  pub ground : Ground setting state w
  pub follow : Follow setting (rows_in setting w) w m
