-- A server in memory, and the server of the rules that it is with its two stores.
use Rattle.std.specs.Prelude.{◌≡◌, ◌≤◌, ◌<◌, ◌⊎◌, ℕ, ◌==◌, ◌||◌, Bool, List, [], ◌∷◌, Option, None, Some, Result, Err}
use Rattle.server_jobs.specs.Wants.{here_by, own_in}
use Rattle.server_log.specs.Part.{Part, log_of}
use Rattle.pair_memory.specs.PairMemory.{PairMemory}
use Rattle.pair_memory.specs.declared.error.WorkError.{WorkError}
use Rattle.pair_memory.specs.declared.error.WorkError.TheVariants.{Failed}
use Rattle.petal_msg.specs.declared.letter.Letter.{Letter}
use Rattle.spec_paxos.specs.declared.record.StateRecord.{StateRecord}
use Rattle.spec_rules.specs.Store.{Store, top_of}
use Rattle.spec_rules.specs.Server.{Server, JobContext}
use Rattle.spec_rules.specs.Jobs.{Acted, job_done, works}
use Rattle.spec_rules.specs.World.{greatest_u64}
use Rattle.spec_rules.specs.declared.job.Job.{Job}

-- whether it runs, its part of the agreed log, which has its number and its incarnation, its side of its pairs, and its queue
pub record ServerView : Type 0 where
  pub running : Bool
  pub log : Part
  pub side : PairMemory
  pub queue : List Job

-- these parts as a server
abbrev pub core_of : Bool → Part → PairMemory → List Job → ServerView
core_of running log side queue = record { running = running; log = log; side = side; queue = queue }

-- where its jobs are done
abbrev pub here_in : ServerView → JobContext
here_in core = here_by core.log

-- the server with this store and these records on its state device
abbrev pub server_of : ServerView → Store → List StateRecord → Server
server_of core store records = record {
  life = record { running = core.running; inc = core.log.voter.inc };
  log = log_of core.log records;
  own = own_in core.side store;
  queue = core.queue;
}

-- the server and its letters after a call
abbrev pub acted : ServerView → Store → List StateRecord → List Letter → Acted
acted core store records letters = record { server = server_of core store records; letters = letters }

-- a server after the first job of its queue, where that meets room in both journals
abbrev pub after_first : JobContext → Server → List Job → Server
after_first here server [] = server
after_first here server (first ∷ rest) = (job_done here server first rest).server

-- the server after its first job, with this store and these records before it
abbrev pub left_by_first : ServerView → Store → List StateRecord → Server
left_by_first core store records = after_first (here_in core) (server_of core store records) core.queue

-- the first job is done as the rule says; without a job nothing is
abbrev pub IsWork : (old : ServerView) → Store → List StateRecord → (new : ServerView) → Store → List StateRecord → Option (List Letter) → Type 0
IsWork old store records new store' records' None = (old.queue ≡ []) × (new ≡ old) × (store' ≡ store) × (records' ≡ records)
IsWork old store records new store' records' (Some letters) =
    acted new store' records' letters ≡ works (here_in old) (server_of old store records) old.queue

-- a number of the server is the greatest of its type, so that a job could not count on
abbrev pub is_spent : ServerView → Store → Bool
is_spent core store = (core.side.next == greatest_u64) || (top_of store.chains == greatest_u64)

-- neither count of faults falls, that of the data device or that of the state device, and `Failed` comes only where one has risen
pub record HasFaults {T : Type 0} (data_before data_now state_before state_now : ℕ) (result : Result T WorkError) : Type 0 where
  pub data_later : data_before ≤ data_now
  pub state_later : state_before ≤ state_now
  pub failed : result ≡ Err Failed → (data_before < data_now) ⊎ (state_before < state_now)
