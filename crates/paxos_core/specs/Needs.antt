-- When an acceptor has to commit before it answers.
use Rattle.std.specs.Prelude.{ℕ, ◌≡◌, List, true}
use Rattle.petal_command.specs.declared.ballot.Ballot.{Ballot}
use Rattle.spec_paxos.specs.Acceptor.{is_open}
use Rattle.spec_paxos.specs.declared.record.StateRecord.{StateRecord}
use Rattle.spec_paxos.specs.Kept.{acceptor_of, AddsNothing}

-- no higher ballot is promised at the place, and the record would change what is kept
pub record Needs (records : List StateRecord) (place : ℕ) (ballot : Ballot) (entry : StateRecord) : Type 0 where
  pub unopposed : is_open (acceptor_of records place) ballot ≡ true
  pub changes : ¬ AddsNothing records entry
