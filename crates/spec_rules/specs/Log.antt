-- What a server keeps of the agreed log, and what a job of the log leaves.
use Rattle.std.specs.Prelude.{ℕ, ◌+◌, List, [], ◌∷◌, length, Option}
use Rattle.petal_command.specs.declared.command.Command.{Command}
use Rattle.petal_msg.specs.declared.body.Body.{Body}
use Rattle.petal_msg.specs.declared.letter.Actor.{Actor}
use Rattle.spec_paxos.specs.Acceptor.{Acceptor}
use Rattle.spec_paxos.specs.Kept.{acceptor_of, known_at, committed}
use Rattle.spec_paxos.specs.declared.phase.Phase.{Phase}
use Rattle.spec_paxos.specs.declared.phase.Phase.TheVariants.{Idle}
use Rattle.spec_paxos.specs.declared.record.StateRecord.{StateRecord}
use Rattle.spec_paxos.specs.declared.record.StateRecord.TheVariants.{Inc}
use Rattle.spec_state.specs.State.{State}
use Rattle.spec_state.specs.Command.{state_after}
use Rattle.spec_rules.specs.Posts.{Post}
use Rattle.spec_rules.specs.declared.job.Job.{Job}

-- the records on its state device; what its proposer is about; the greatest round that it was refused with for the place
-- after its last applied entry; the entries that it has applied; the Leaves for the incarnations of which it heard that they
-- stopped; the commands of clients that it wants chosen, in the order of their arrival; and which of the other servers it asks
-- next, counted from the one after it
pub record Log : Type 0 where
  pub records : List StateRecord
  pub phase : Phase
  pub refused : ℕ
  pub applied : List Command
  pub leaves : List Command
  pub wants : List Command
  pub asks : ℕ

-- that of a server that runs for the first time
abbrev pub first_log : Log
first_log = record { records = Inc 1 ∷ []; phase = Idle; refused = 0; applied = []; leaves = []; wants = []; asks = 0 }

-- the revision: how many entries were applied
abbrev pub rev_of : Log → ℕ
rev_of log = length log.applied

-- the place after the last applied entry
abbrev pub next_place : Log → ℕ
next_place log = rev_of log + 1

-- the global state, as the applied entries make it
abbrev pub state_in : (servers : ℕ) → Log → State
state_in servers log = state_after servers log.applied

-- the command that is known to be chosen for a place
abbrev pub known : Log → ℕ → Option Command
known log place = known_at log.records place

abbrev pub acceptor : Log → ℕ → Acceptor
acceptor log place = acceptor_of log.records place

-- the log after a commit to the state device
abbrev pub commits : Log → StateRecord → Log
commits log entry = record log { records = committed log.records entry }

abbrev pub with_phase : Log → Phase → Log
with_phase log phase = record log { phase = phase }

-- a server among the servers of a run: its number, its incarnation, and how many they are
pub record Voter : Type 0 where
  pub me : ℕ
  pub inc : ℕ
  pub servers : ℕ

-- ### What a job of the log leaves, what it sends, and the jobs that follow it up

pub record LogDone : Type 0 where
  pub log : Log
  pub posts : List Post
  pub jobs : List Job

-- the job leaves this and sends nothing
abbrev pub keeps : Log → LogDone
keeps log = record { log = log; posts = []; jobs = [] }

-- the job leaves this and sends these letters
abbrev pub posts_all : Log → List Post → LogDone
posts_all log posts = record { log = log; posts = posts; jobs = [] }

-- the job leaves this and sends one letter
abbrev pub posts_one : Log → Actor → Body → LogDone
posts_one log to said = posts_all log (record { to = to; body = said } ∷ [])
