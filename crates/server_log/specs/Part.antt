-- A server's part of the agreed log in memory, and the log of the rules that it is with the records of its state store.
use Rattle.std.specs.Prelude.{ℕ, length, List, [], Option}
use Rattle.petal_command.specs.declared.command.Command.{Command}
use Rattle.petal_msg.specs.declared.letter.Actor.TheVariants as actor
use Rattle.spec_paxos.specs.declared.phase.Phase.{Phase}
use Rattle.spec_paxos.specs.declared.phase.Phase.TheVariants.{Idle}
use Rattle.spec_paxos.specs.declared.record.StateRecord.{StateRecord}
use Rattle.spec_rules.specs.Log.{Log, Voter}
use Rattle.spec_rules.specs.Ballots.{first_wanted, wanted}
use Rattle.spec_rules.specs.Server.{Sender}
use Rattle.spec_state.specs.Command.{state_after}
use Rattle.spec_state.specs.State.{State}

-- which of the servers of the run it is, and as which incarnation; what its proposer is about; the greatest round that it was
-- refused with for the next place; the entries that it has applied; the Leaves for the incarnations of which it heard that they
-- stopped; the commands of clients that it wants chosen; and which of the other servers it asks next
pub record Part : Type 0 where
  pub voter : Voter
  pub phase : Phase
  pub refused : ℕ
  pub applied : List Command
  pub leaves : List Command
  pub wants : List Command
  pub asks : ℕ

-- that of a server that has applied nothing
abbrev pub new_part : Voter → Part
new_part voter = record { voter = voter; phase = Idle; refused = 0; applied = []; leaves = []; wants = []; asks = 0 }

-- the log, with these records on the state device
abbrev pub log_of : Part → List StateRecord → Log
log_of part records =
    record {
      records = records;
      phase = part.phase;
      refused = part.refused;
      applied = part.applied;
      leaves = part.leaves;
      wants = part.wants;
      asks = part.asks;
    }

-- the global state, as the applied entries make it
abbrev pub state_of : Part → State
state_of part = state_after part.voter.servers part.applied

-- its letters carry its incarnation and its revision
abbrev pub sender_of : Part → Sender
sender_of part = record { from = actor.Server part.voter.me; inc = part.voter.inc; rev = (state_of part).rev }

-- what the server wants chosen, where these are wanted after the Leaves; no record counts
abbrev pub wants_of : Part → (returning : List Command) → List Command
wants_of part returning = wanted part.voter (log_of part []) returning

-- the command for which its next ballot starts
abbrev pub next_want : Part → (returning : List Command) → Option Command
next_want part returning = first_wanted part.phase (length part.applied) (wants_of part returning)
