-- What a server does: with the first job of its queue, with a letter that is delivered, and at a tick.
use Rattle.std.specs.Prelude.{ℕ, ◌==◌, ◌||◌, not, nat_lt, length, map, filter, Bool, true, false, List, [], ◌∷◌, ◌++◌}
use Rattle.std.specs.Prelude.{if◌then◌else◌, Option, Some, None, is_some}
use Rattle.std.specs.List.{flat_map, range_with_len}
pub use Rattle.petal_msg.specs.Kinds.{asked_by}
use Rattle.petal_msg.specs.Kinds.{is_logged, subject_of}
use Rattle.petal_command.specs.declared.command.Command.{Command}
use Rattle.petal_base.specs.declared.cell.Cell.{Cell}
use Rattle.petal_msg.specs.declared.body.Body.{Body}
use Rattle.petal_msg.specs.declared.body.Body.TheVariants as body
use Rattle.petal_msg.specs.declared.letter.Actor.{Actor}
use Rattle.petal_msg.specs.declared.letter.Actor.TheVariants as actor
use Rattle.petal_msg.specs.declared.letter.Letter.{Letter}
use Rattle.petal_msg.specs.declared.operation.Action.{Action}
use Rattle.petal_msg.specs.declared.operation.Action.TheVariants as action
use Rattle.petal_msg.specs.declared.operation.Pending.{Pending}
use Rattle.spec_rules.specs.Ballots.{wanted, on_down, on_propose, on_pax, starts, first_wanted, post_of, ballot_posts, ask_posts, asks_next, start_jobs}
use Rattle.spec_rules.specs.Entries.{on_ask, on_news, applies}
use Rattle.spec_rules.specs.Log.{Log, LogDone, Voter, keeps, known, next_place, rev_of}
use Rattle.spec_rules.specs.State.{State, is_in, servers_of}
use Rattle.spec_rules.specs.Server.{Server, PairState, JobContext, Post, Sender, JobResult, silent, says, sender, stopped, letters_of}
use Rattle.spec_rules.specs.Writes.{next_stage, acts, goes_on, pending_on, on_write, on_reserve, on_reserved, on_pair_full, on_replicate, on_replicated}
use Rattle.spec_rules.specs.Reads.{on_read}
use Rattle.spec_rules.specs.Copies.{copies_on, repairs, trims_on, on_hello_ask, on_hello, on_trim, on_trimmed, on_sync, on_synced}
use Rattle.spec_rules.specs.Copies.{on_sync_full, copy_posts, page_posts, repair_jobs}
use Rattle.spec_rules.specs.Crossing.{crossed_by, jobs_by}
use Rattle.spec_rules.specs.Progress.{copying_on}
use Rattle.spec_rules.specs.Returns.{returning, proposed}
use Rattle.spec_rules.specs.Draining.{draining}
use Rattle.spec_rules.specs.Fills.{fill_posts, moving, on_fill, on_filled, on_fill_full}
use Rattle.spec_rules.specs.Sweeping.{sweep_jobs, sweeps}
use Rattle.spec_rules.specs.Store.{marked_by}
use Rattle.spec_rules.specs.declared.step.CommitEnd.{CommitEnd}
use Rattle.spec_rules.specs.declared.step.CommitEnd.TheVariants.{Before, After}
use Rattle.spec_rules.specs.declared.job.Job.{Job}
use Rattle.spec_rules.specs.declared.job.Job.TheVariants as job
use Rattle.petal_base.specs.Limits.{journal_records, marks_limit}

-- what is done with the content of a letter of the pairs, at a server of its revision that handles it
unfoldable pub handles : JobContext → PairState → Body → JobResult
handles here own (body.Down server inc) = silent own
handles here own (body.Seen line round running inc full) = silent own
handles here own (body.Propose command) = silent own
handles here own (body.Pax said) = silent own
handles here own (body.Ask rev) = silent own
handles here own (body.News after commands) = silent own
handles here own (body.Read client seq cell epoch) = on_read here own client seq cell epoch
handles here own (body.Write client seq cell epoch bytes) = on_write here own (record { client = client; seq = seq; cell = cell; epoch = epoch; bytes = bytes })
handles here own (body.Data seq bytes) = silent own
handles here own (body.NotHere seq) = silent own
handles here own (body.BlockBusy seq) = silent own
handles here own (body.Held seq) = silent own
handles here own (body.WrongRev seq) = silent own
handles here own (body.Written seq) = silent own
handles here own (body.Full seq) = silent own
handles here own (body.Reserve number cell) = on_reserve here own number cell
handles here own (body.Reserved number cell) = on_reserved here own number cell
handles here own (body.PairFull number cell) = on_pair_full here own number cell
handles here own (body.Replicate number key version origin bytes) = on_replicate here own number key origin bytes
handles here own (body.Replicated number cell) = on_replicated here own number cell
handles here own (body.HelloAsk map link after) = on_hello_ask here own (record { map = map; link = link }) after
handles here own (body.Hello map link after block) = on_hello here own (record { map = map; link = link }) after block
handles here own (body.Trim number cell epochs) = on_trim here own number cell epochs
handles here own (body.Trimmed number cell) = on_trimmed here own number cell
handles here own (body.Sync number key version index bytes) =
    on_sync here own (record { op = number; key = key; index = index; stored = record { version = version; bytes = bytes } })
handles here own (body.Synced number cell index) = on_synced here own number cell index
handles here own (body.SyncFull number cell) = on_sync_full own number cell
handles here own (body.Fill key bytes) = on_fill here own (record { key = key; bytes = bytes })
handles here own (body.Filled key) = on_filled here own key
handles here own (body.FillFull key) = on_fill_full here own key

abbrev pub wrong_rev : PairState → ℕ → Option ℕ → JobResult
wrong_rev own client None = silent own
wrong_rev own client (Some seq) = says own (actor.Client client) (body.WrongRev seq)

-- a letter of another revision: a client is told, a server is not
abbrev pub at_other_rev : PairState → Letter → Actor → JobResult
at_other_rev own letter (actor.Server n) = silent own
at_other_rev own letter (actor.Client c) = wrong_rev own c (asked_by letter.body)

-- the sender, where it is a server, is In with the incarnation that the letter names
abbrev pub is_from_in : State → ℕ → Actor → Bool
is_from_in state inc (actor.Server n) = is_in state n inc
is_from_in state inc (actor.Client c) = true

-- the three tests before a letter of the pairs is handled: this server is In with its own incarnation, the letter has the
-- server's revision, and its sender is In
abbrev pub on_letter : JobContext → PairState → Letter → JobResult
on_letter here own letter =
    if not (is_in here.state here.me here.inc) then silent own
    else if not (letter.rev == here.state.rev) then at_other_rev own letter letter.from
    else if not (is_from_in here.state letter.inc letter.from) then silent own
    else handles here own letter.body

-- what is under way on the cell does its next stage: an operation, a copy, or the last copy of the cell to this server
abbrev pub stages : JobContext → PairState → Cell → JobResult
stages here own cell =
    if is_some (pending_on own cell) then goes_on here own cell
    else if is_some (copying_on own cell) then copies_on here own cell
    else trims_on here own cell

-- one job of the pairs, with at most one commit; a follow-up stage, and the job of a link, are jobs only while the server is In
-- with its own incarnation
unfoldable pub does : JobContext → PairState → Job → JobResult
does here own (job.Letter letter) = on_letter here own letter
does here own (job.Stage cell) = if is_in here.state here.me here.inc then stages here own cell else silent own
does here own (job.Repair link) = if is_in here.state here.me here.inc then repairs here own link else silent own
does here own job.Sweep = if is_in here.state here.me here.inc then sweeps here own else silent own
does here own job.Apply = silent own
does here own job.Start = silent own

-- ### The agreed log

-- what is done with a letter of the agreed log, at each revision
unfoldable pub hears_log : Voter → Log → Letter → Body → LogDone
hears_log voter log letter (body.Down server inc) = on_down log server inc
hears_log voter log letter (body.Propose command) = on_propose log command
hears_log voter log letter (body.Pax said) = on_pax voter log letter.from said
hears_log voter log letter (body.Ask rev) = on_ask log letter.from rev
hears_log voter log letter (body.News after commands) = on_news log letter after commands
hears_log voter log letter _ = keeps log

-- one job of the agreed log, with at most one commit
unfoldable pub log_does : Voter → Log → Job → LogDone
log_does voter log (job.Letter letter) = hears_log voter log letter letter.body
log_does voter log (job.Stage cell) = keeps log
log_does voter log (job.Repair link) = keeps log
log_does voter log job.Sweep = keeps log
log_does voter log job.Apply = applies log
log_does voter log job.Start = keeps log

-- the job is of the agreed log, and not of the pairs
abbrev pub is_log_job : Job → Bool
is_log_job (job.Letter letter) = is_logged (subject_of letter.body)
is_log_job (job.Stage cell) = false
is_log_job (job.Repair link) = false
is_log_job job.Sweep = false
is_log_job job.Apply = true
is_log_job job.Start = true

abbrev pub voter_of : JobContext → Voter
voter_of here = record { me = here.me; inc = here.inc; servers = servers_of here.state }

-- ### A server's steps

-- where a server stands
abbrev pub here_of : State → ℕ → Server → JobContext
here_of state me server = record { state = state; me = me; inc = server.life.inc }

-- a server, and the letters that its step sends
pub record Acted : Type 0 where
  pub server : Server
  pub letters : List Letter

-- the server after a job, with the jobs that are left and those that follow it up
abbrev pub worked : JobContext → Server → List Job → JobResult → Acted
worked here server rest done = record {
  server = record server { own = done.own; queue = rest ++ done.jobs };
  letters = letters_of (sender here) 0 done.posts;
}

-- the same after a job of the agreed log
abbrev pub entered : JobContext → Server → List Job → LogDone → Acted
entered here server rest done = record {
  server = record server { log = done.log; queue = rest ++ done.jobs };
  letters = letters_of (sender here) 0 done.posts;
}

-- the same after the job that applies the next known entry, where it is known
abbrev pub crossing : JobContext → Server → List Job → Option Command → LogDone → Acted
crossing here server rest entry done = record {
  server = record server {
    log = done.log;
    own = crossed_by here entry server.own;
    queue = rest ++ done.jobs ++ jobs_by here.state here.me entry server.own;
  };
  letters = letters_of (sender here) 0 done.posts;
}

-- what a server wants chosen by its own part: that it and its links return, that the active fence takes effect, and that what it has moved is
-- noted
abbrev pub own_wants : JobContext → PairState → List Command
own_wants here own = returning here own ++ draining here own ++ moving here own

-- what a server wants chosen, the most urgent first
abbrev pub wanted_by : JobContext → Server → List Command
wanted_by here server = wanted (voter_of here) server.log (own_wants here server.own)

-- the same after the job that starts a ballot for the first command that is wanted
abbrev pub starting : JobContext → Server → List Job → List Command → Acted
starting here server rest wants =
    let done = starts (voter_of here) server.log wants in
    record {
      server = record server {
        log = done.log;
        own = proposed here.state server.own (first_wanted server.log.phase (rev_of server.log) wants);
        queue = rest ++ done.jobs;
      };
      letters = letters_of (sender here) 0 done.posts;
    }

-- what the job leaves where its commit meets room
abbrev pub job_done : JobContext → Server → Job → List Job → Acted
job_done here server job.Apply rest = crossing here server rest (known server.log (next_place server.log)) (applies server.log)
job_done here server job.Start rest = starting here server rest (wanted_by here server)
job_done here server first rest =
    if is_log_job first then entered here server rest (log_does (voter_of here) server.log first)
    else worked here server rest (does here server.own first)

-- ### Stops

-- to each other server
abbrev pub down_posts : (me inc servers : ℕ) → List Post
down_posts me inc servers = map (post_of (body.Down me inc)) (filter (λ n. not (n == me)) (range_with_len 0 servers))

-- a server stops: what it had in memory is gone, and each other server is told. These letters were made before, and tell no
-- revision
abbrev pub stops : JobContext → Server → Acted
stops here server = record {
  server = stopped server;
  letters = letters_of (record { from = actor.Server here.me; inc = here.inc; rev = 0 }) 0 (down_posts here.me here.inc (servers_of here.state));
}

-- the state journal would have more records than it has room for
abbrev pub has_full_log : Server → Bool
has_full_log server = nat_lt journal_records (length server.log.records)

-- the data device would have more marks and rows than it has room for
abbrev pub has_too_many_marks : Server → Bool
has_too_many_marks server = nat_lt marks_limit (marked_by server.own.store)

-- one of its devices would have more than it has room for
abbrev pub is_overfull : Server → Bool
is_overfull server = has_full_log server || has_too_many_marks server

-- a job whose commit there is no room for commits nothing, and the server stops
abbrev pub where_room : JobContext → Server → Acted → Acted
where_room here server acted = if is_overfull acted.server then stops here server else acted

-- a server does the first job of its queue
abbrev pub works : JobContext → Server → List Job → Acted
works here server [] = record { server = server; letters = [] }
works here server (first ∷ rest) = where_room here server (job_done here server first rest)

-- a call of a device failed in the job: its commit was made or not, its letters are not sent, and the server stops
abbrev pub faults : JobContext → Server → List Job → CommitEnd → Acted
faults here server queue Before = stops here server
faults here server queue After = stops here (works here server queue).server

-- what a glance shows of a server: whether it runs, its incarnation, and whether the copy that ended last found no slot
abbrev pub shown : (line round : ℕ) → Server → Body
shown line round server =
    if server.life.running then body.Seen line round true server.life.inc server.own.copies.full else body.Seen line round false 0 false

-- a stopped server's letter has no incarnation and no revision
abbrev pub glance_sender : JobContext → Server → Sender
glance_sender here server =
    if server.life.running then sender here else record { from = actor.Server here.me; inc = 0; rev = 0 }

-- the operator's number among the clients
abbrev pub operator : ℕ
operator = 8

-- a server is glanced at
abbrev pub glances : JobContext → (line round : ℕ) → Server → Acted
glances here line round server = record {
  server = server;
  letters = letters_of (glance_sender here server) 0 (record { to = actor.Client operator; body = shown line round server } ∷ []);
}

-- a letter is delivered: a running server queues it, a stopped one drops it
abbrev pub delivered : Server → Letter → Server
delivered server letter = if server.life.running then record server { queue = server.queue ++ job.Letter letter ∷ [] } else server

-- the letter of which an operation waits for the answer
abbrev pub awaited : JobContext → PairState → Pending → Action → List Post
awaited here own op action.Reserve = (acts here own op action.Reserve).posts
awaited here own op (action.Mark kind) = []
awaited here own op action.Put = []
awaited here own op action.Replicate = (acts here own op action.Replicate).posts
awaited here own op (action.Unmark kind) = []
awaited here own op action.Answer = []
awaited here own op action.Drop = []

abbrev pub sent_again : JobContext → PairState → Pending → List Post
sent_again here own op = awaited here own op (next_stage here.state here.me op)

-- of copies and fills too, while the server is In as itself
abbrev pub copies_again : JobContext → PairState → List Post
copies_again here own =
    if is_in here.state here.me here.inc then copy_posts here own ++ page_posts here own ++ fill_posts here own else []

-- each letter that is not yet answered goes out again, and one of the other servers is asked what follows
abbrev pub tick_posts : JobContext → Server → List Post
tick_posts here server =
    ballot_posts (voter_of here) server.log.phase
    ++ flat_map (λ row. sent_again here server.own row.1) server.own.pairs.pending
    ++ copies_again here server.own
    ++ ask_posts (voter_of here) server.log

-- an idle proposer is to start a ballot where a command is wanted, and links whose next copy or old mark waits are to be mended
abbrev pub tick_jobs : JobContext → Server → List Job
tick_jobs here server =
    start_jobs server.log.phase (wanted_by here server)
    ++ (if is_in here.state here.me here.inc then repair_jobs here server.own ++ sweep_jobs here server.own else [])

-- a tick: letters go out again, and jobs are queued
abbrev pub ticks : JobContext → Server → Acted
ticks here server = record {
  server = record server { log = asks_next (voter_of here) server.log; queue = server.queue ++ tick_jobs here server };
  letters = letters_of (sender here) 0 (tick_posts here server);
}
