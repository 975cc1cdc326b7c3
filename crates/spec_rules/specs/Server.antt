-- A server: its life, its part of the agreed log, its tables of pair operations, its store and its queue.
use Rattle.std.specs.Prelude.{ℕ, Bool, false, List, [], ◌∷◌, Option}
use Rattle.petal_base.specs.declared.cell.Cell.{Cell}
use Rattle.petal_base.specs.declared.cell.Key.{Key}
use Rattle.petal_table.specs.Table.{Table}
use Rattle.petal_msg.specs.declared.body.Body.{Body}
use Rattle.petal_msg.specs.declared.copying.Copying.{Copying}
use Rattle.petal_msg.specs.declared.copying.LastCopy.{LastCopy}
use Rattle.petal_msg.specs.declared.copying.LinkId.{LinkId}
use Rattle.petal_msg.specs.declared.copying.Progress.{Progress}
use Rattle.petal_msg.specs.declared.letter.Actor.{Actor}
use Rattle.petal_msg.specs.declared.letter.Actor.TheVariants as actor
use Rattle.petal_msg.specs.declared.operation.Finished.{Finished}
use Rattle.petal_msg.specs.declared.operation.LastOp.{LastOp}
use Rattle.petal_msg.specs.declared.operation.Pending.{Pending}
use Rattle.spec_rules.specs.Log.{Log, first_log}
pub use Rattle.spec_rules.specs.Posts.{Post, Sender, post_to, letters_of}
use Rattle.spec_rules.specs.State.{State}
use Rattle.spec_rules.specs.Store.{Store, empty_store}
use Rattle.spec_rules.specs.declared.job.Job.{Job}

-- whether it runs, and as which incarnation
pub record Life : Type 0 where
  pub running : Bool
  pub inc : ℕ

-- what a server remembers of pair operations, for its life: as a lead those that are pending, the number of the next one
-- and what it has finished for each client; as a second server the last one on each cell
pub record Pairs : Type 0 where
  pub pending : Table Cell Pending
  pub next : ℕ
  pub finished : Table ℕ Finished
  pub last : Table Cell LastOp

-- what a server remembers of copies, for its life: as the holder of a link how far it is, and the copies that are under way; as
-- the other server the last copy of each cell; and whether the copy that ended last found no slot
pub record Copies : Type 0 where
  pub progress : Table LinkId Progress
  pub pending : Table Cell Copying
  pub last : Table Cell LastCopy
  pub full : Bool

-- a server's own part in the pairs of its cells: what a job of the pairs may change. Of each link of an old map that it leads it remembers
-- the last key of which it was told that the new map has it
pub record PairState : Type 0 where
  pub pairs : Pairs
  pub copies : Copies
  pub filled : Table LinkId Key
  pub store : Store

-- a server: its life, its part of the agreed log, its own part in the pairs, and its jobs in the order in which they came
pub record Server : Type 0 where
  pub life : Life
  pub log : Log
  pub own : PairState
  pub queue : List Job

-- nothing is pending and nothing was finished
abbrev pub no_pairs : Pairs
no_pairs = record { pending = []; next = 1; finished = []; last = [] }

-- nothing was asked for and nothing was copied
abbrev pub no_copies : Copies
no_copies = record { progress = []; pending = []; last = []; full = false }

-- a server of a run that begins
abbrev pub first_server : (running : Bool) → ℕ → Server
first_server running slots = record {
  life = record { running = running; inc = 1 };
  log = first_log;
  own = record { pairs = no_pairs; copies = no_copies; filled = []; store = empty_store slots };
  queue = [];
}

-- a server that stops: what it had in memory is lost, and its jobs with it. No rule reads the log's memory and the pairs of a
-- stopped server, and the slots that it had set apart are free; they stay in this record so that laws can tell what it was about
abbrev pub stopped : Server → Server
stopped server = record server { life = record server.life { running = false }; queue = [] }

-- where a job is done: the state at the server's revision when the job begins, the server and its incarnation
pub record JobContext : Type 0 where
  pub state : State
  pub me : ℕ
  pub inc : ℕ

-- what a job leaves, what it sends, and the jobs that follow it up
pub record JobResult : Type 0 where
  pub own : PairState
  pub posts : List Post
  pub jobs : List Job

-- the job leaves this and sends nothing
abbrev pub silent : PairState → JobResult
silent own = record { own = own; posts = []; jobs = [] }

-- the job leaves this and sends one letter
abbrev pub says : PairState → Actor → Body → JobResult
says own to body = record { own = own; posts = record { to = to; body = body } ∷ []; jobs = [] }

-- the job leaves this and sends one letter to a server
abbrev pub says_to : PairState → Option ℕ → Body → JobResult
says_to own server said = record { own = own; posts = post_to server said; jobs = [] }

-- a server's letters carry its incarnation and its revision
abbrev pub sender : JobContext → Sender
sender here = record { from = actor.Server here.me; inc = here.inc; rev = here.state.rev }
