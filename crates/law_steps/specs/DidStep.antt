-- What a step of the world may have done: a relation above the step, with what the laws need to know of it.
use Rattle.law_steps.specs.Imports.{Acted, Actor, After, Blank, Body, Boot, Caught, Command, Copied, Glanced, HasProperTuples, In, IsBelow, IsPrefix, Job}
use Rattle.law_steps.specs.Imports.{JobContext, JobResult, Letter, LinkId, LinkRow, Log, Nothing, PairState, Paired, Post, Reaction, Sender, Server, Setting}
use Rattle.law_steps.specs.Imports.{State, Step, Subject, Work, World, awake, before_blanks, blanked, chosen_log, crossed, down_posts, here_of, is_in}
use Rattle.law_steps.specs.Imports.{is_logged, letters_of, next_copy, proposed, raised, reacts, rev_of, sender, server_state, servers_of, settled_by, silent}
use Rattle.law_steps.specs.Imports.{state_after, stays, stopped, subject_of, wakes}
use Rattle.std.specs.Prelude.{[], ◌++◌, ◌<◌, ◌∷◌, ◌≡◌, ◌⊎◌, Bool, List, Option, Some, false, true, ℕ}
use Rattle.spec_rules.specs.World.{acts}
use Rattle.law_steps.specs.DidHolder.{IsHeldWith}
use Rattle.law_steps.specs.DidLead.{Asks}
use Rattle.law_steps.specs.Did.{Did}
use Rattle.law_steps.specs.DidClient.{Turned}
use Rattle.petal_msg.specs.declared.letter.Actor.TheVariants as actor
use Rattle.spec_rules.specs.declared.job.Job.TheVariants as job
use Rattle.spec_rules.specs.declared.step.WorkEnd.TheVariants as work_end

-- a letter that says this was sent to this actor, by a sender of this revision
pub record Heard (w : World) (to : Actor) (rev : ℕ) (said : Body) : Type 0 where
  pub letter : Letter
  pub sent : In letter w.sent
  pub own : letter.to ≡ to
  pub at : letter.rev ≡ rev
  pub is : letter.body ≡ said

-- the letters that wait in a server's queue were sent to it
abbrev pub AreQueued : World → ℕ → List Job → Type 0
AreQueued w n queue = (letter : Letter) → In (job.Letter letter) queue → In letter w.sent × (letter.to ≡ actor.Server n)

-- ### Servers

-- the server's next job is a letter that says this, of the server's own revision
pub record Handled (w : World) (n : ℕ) (said : Body) : Type 0 where
  pub letter : Letter
  pub rest : List Job
  pub next : (w.servers n).queue ≡ job.Letter letter ∷ rest
  pub sent : In letter w.sent
  pub own : letter.to ≡ actor.Server n
  pub at : letter.rev ≡ rev_of (w.servers n).log
  pub is : letter.body ≡ said

-- where a server stands, at its own state
abbrev pub own_place : Setting → World → ℕ → JobContext
own_place setting w n = here_of (server_state setting w n) n (w.servers n)

-- the server after a job, with this log and this queue
abbrev pub served : Server → Log → JobResult → List Job → Server
served server log done queue = record server { log = log; own = done.own; queue = queue }

-- nothing is done but to ask once more what pending operations wait for, and to speak of the agreed log
pub record IsIdle (here : JobContext) (own : PairState) (done : JobResult) : Type 0 where
  pub same : done.own ≡ own
  pub asks : (post : Post) → In post done.posts → Asks here own post

-- between two servers: of a pair's write, or of copies
abbrev pub is_between : Subject → Bool
is_between Paired = true
is_between Copied = true
is_between _ = false

-- the server's own part stays as it is, and nothing is said of pairs or copies
pub record LeavesAll (own : PairState) (done : JobResult) : Type 0 where
  pub same : done.own ≡ own
  pub mute : (post : Post) → In post done.posts → is_between (subject_of post.body) ≡ false

-- a server that is not In as itself leaves its own part as it is, and speaks neither of pairs nor of copies
abbrev pub IsSeatedOrMute : JobContext → PairState → JobResult → Type 0
IsSeatedOrMute here own done = (is_in here.state here.me here.inc ≡ true) ⊎ LeavesAll own done

-- it starts a ballot for the link's Caught: it is In as itself and holds the link alone, the other server is In, and nothing is left to
-- copy
pub record IsBallotFor (here : JobContext) (own : PairState) (id : LinkId) : Type 0 where
  pub row : LinkRow
  pub other : ℕ
  pub held : IsHeldWith here id row other
  pub nothing : next_copy here.state row own ≡ Nothing
  pub seated : is_in here.state here.me here.inc ≡ true

-- the command for which a ballot starts, where one does
abbrev pub Starts : JobContext → PairState → Option Command → Type 0
Starts here own (Some (Caught of link holder inc other other_inc)) = IsBallotFor here own (record { map = of; link = link })
Starts here own _ = Unit {0}

-- what a running server does in a step, before its letters go: a job that applies no entry, one that starts a ballot and has a Caught
-- in mind then, or one that applies an entry and drops what others asked of it on the links that the entry touches; by its own Join
-- its store waits for nobody any more
pub data Worked (setting : Setting) (w : World) (n : ℕ) : Log → JobResult → Type 0 where
  By_job : (log : Log) (done : JobResult) → log.applied ≡ (w.servers n).log.applied → Did (Handled w n) (own_place setting w n) (w.servers n).own done
      → IsSeatedOrMute (own_place setting w n) (w.servers n).own done
      → Worked setting w n log done
  By_ballot : (log : Log) (started : Option Command) (posts : List Post) → log.applied ≡ (w.servers n).log.applied
      → Starts (own_place setting w n) (w.servers n).own started → ((post : Post) → In post posts → is_logged (subject_of post.body) ≡ true)
      → Worked setting w n log (record { own = proposed (server_state setting w n) (w.servers n).own started; posts = posts; jobs = [] })
  By_entry : (log : Log) (entry : Command) → log.applied ≡ (w.servers n).log.applied ++ entry ∷ [] → IsPrefix log.applied (chosen_log setting w)
      → Worked setting w n log (silent (settled_by (own_place setting w n) entry (crossed (server_state setting w n) entry (w.servers n).own)))

-- what a server's step leaves and sends
abbrev pub served_so : Setting → World → (n : ℕ) → Log → JobResult → List Job → Acted
served_so setting w n log done queue = record {
  server = served (w.servers n) log done queue;
  letters = letters_of (sender (own_place setting w n)) 0 done.posts;
}

-- a server's letters that tell no revision
abbrev pub without_rev : JobContext → Sender
without_rev here = record { from = actor.Server here.me; inc = here.inc; rev = 0 }

-- the same where the server stops once the job's commit is made: in place of its letters each other server is told
abbrev pub stopped_so : Setting → World → (n : ℕ) → Log → JobResult → Acted
stopped_so setting w n log done = record {
  server = stopped (served (w.servers n) log done []);
  letters = letters_of (without_rev (own_place setting w n)) 0 (down_posts n (w.servers n).life.inc (servers_of (server_state setting w n)));
}

-- the server is as before; what it sends is of it, and shows the operator whether it runs
abbrev pub shown_so : World → (n : ℕ) → Sender → List Post → Acted
shown_so w n who posts = record { server = w.servers n; letters = letters_of who 0 posts }

-- a server's step: it does its work, or asks; it does it and stops, or stops with nothing done; or it is as it was, where it
-- is glanced at or takes no letter. A stopped server runs as its next incarnation, with nothing in memory; or it only raises its
-- incarnation, or does nothing
pub data Serving (setting : Setting) (w : World) (n : ℕ) (what : Step) : Acted → Type 0 where
  Goes : (log : Log) (done : JobResult) (queue : List Job) → (w.servers n).life.running ≡ true → Worked setting w n log done → AreQueued w n queue
      → (what ≡ Work work_end.Done) ⊎ IsIdle (own_place setting w n) (w.servers n).own done
      → Serving setting w n what (served_so setting w n log done queue)
  Ends : (log : Log) (done : JobResult) → (w.servers n).life.running ≡ true → Worked setting w n log done
      → Serving setting w n what (stopped_so setting w n log done)
  Stays : (who : Sender) (posts : List Post) → who.from ≡ actor.Server n → ((post : Post) → In post posts → subject_of post.body ≡ Glanced)
      → Serving setting w n what (shown_so w n who posts)
  Wakes : what ≡ Boot work_end.Done → (w.servers n).life.running ≡ false
      → Serving setting w n what (wakes (own_place setting w n) (awake (raised (w.servers n))))
  Fails : what ≡ Boot (work_end.Fault After) → (w.servers n).life.running ≡ false → Serving setting w n what (stays (raised (w.servers n)))

-- ### Clients

-- a client's entries are plain and only grow, and its state is below this one
pub record IsOnward (servers : ℕ) (state : State) (before after : List Command) : Type 0 where
  pub grows : IsPrefix before after
  pub plain : HasProperTuples servers after
  pub below : IsBelow (state_after servers after) state

-- ### Steps

-- the world after a step that is allowed, where `state` is at least what is chosen then; a stopped server's device may be made blank
pub data Happens (setting : Setting) (state : State) (w : World) : World → Type 0 where
  Serves : (n stamp : ℕ) (what : Step) (acted : Acted) → w.server_clocks n < stamp → n < setting.servers
      → before_blanks what setting w n ≡ w.before_blank → Serving setting w n what acted
      → Happens setting state w (acts setting w n what stamp acted).world
  Blanks : (n stamp : ℕ) → w.server_clocks n < stamp → n < setting.servers → (w.servers n).life.running ≡ false
      → Happens setting state w (acts setting w n Blank stamp (stays (blanked (w.servers n)))).world
  Turns : (c stamp : ℕ) (in_call : Bool) (reacted : Reaction) → w.client_clocks c < stamp → c < 9
      → Turned (Heard w (actor.Client c)) setting.servers setting.lines c (w.clients c) in_call reacted
      → IsOnward setting.servers state (w.clients c).applied reacted.client.applied
      → Happens setting state w (reacts w c stamp reacted).world
